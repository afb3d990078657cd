-- The request is read, granted on the store, and replied to; what is asked takes no random bytes.
use Rattle.std.proofs.Common.{rules}
use Rattle.granting.proofs.Plans.{map-decides}
use Rattle.revocation_endpoint.proofs.Served.{request-random, revocation-served}
use Rattle.revocation_endpoint.proofs.serve.Goals as goal

pub grant-requires : goal.grant-requires
grant-requires c = request-random _ _ _ c.read-reading.ensures

pub returns : goal.returns
returns c =
    let whole = (rw c.unwrap.ensures at c.as_mut_array.ensures.cases).same in
    let decided = map-decides c.grant.result c.map-decision.result c.map-decision.ensures.variant (search rules) in
    revocation-served _ _ _ _ _ _ c.read-reading.ensures (rw whole at c.grant.ensures) (rw decided at c.write_reply-length.ensures) (rw decided at c.answer.ensures)
