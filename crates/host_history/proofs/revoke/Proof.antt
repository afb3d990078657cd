-- The export's contract, its numbers read as a result; nothing is asked of a call that brings no random bytes.
use borrow.Author.Rules.{rules}
use mathlib.Core.Path.{ap}
use Rattle.host_history.specs.Exports.{token_seen, exports}
use Rattle.host_history.proofs.revoke.Statement.{statement}
use Rattle.host_history.proofs.revoke.Tie as tie

returns : tie.Need-returns
unfolding exports
returns c = (tt, ap token_seen c.poplarchime_revoke.ensures.0)

pub revoke_spec : {M : Type 1} → statement M
revoke_spec = tie.close (tie.spec (λ c κs. search rules) (λ c. search rules) (λ c. search rules) returns)
