-- Each kind of request has its plan; the random bytes that it takes are there.
use Rattle.std.proofs.Common.{refl}
use Rattle.protocol.specs.Granting.{refused_plan, revocation_plan, plan_for}
use Rattle.protocol.proofs.Reasons.{stop}
use Rattle.granting.proofs.Plans.{refuses}
use Rattle.granting.proofs.grant.Goals as goal

pub returns-in-Refused : goal.returns-in-Refused
unfolding plan_for refused_plan
returns-in-Refused c = rw c.in-Refused.is (refuses (stop refl) refl)

pub returns-in-Code : goal.returns-in-Code
unfolding plan_for
returns-in-Code c = rw c.in-Code.is c.grant_code.ensures

pub returns-in-Exchange : goal.returns-in-Exchange
unfolding plan_for
returns-in-Exchange c = rw c.in-Exchange.is c.grant_exchange.ensures

pub returns-in-Refresh : goal.returns-in-Refresh
unfolding plan_for
returns-in-Refresh c = rw c.in-Refresh.is c.grant_refresh.ensures

pub returns-in-Credentials : goal.returns-in-Credentials
unfolding plan_for
returns-in-Credentials c = rw c.in-Credentials.is c.grant_credentials.ensures

-- a revocation looks at no random bytes: its plan is the same for any
pub returns-in-Revocation : goal.returns-in-Revocation
unfolding plan_for revocation_plan
returns-in-Revocation c = rw c.in-Revocation.is c.revoke.ensures
