-- The export's contract, its numbers read as a result; that random bytes are bytes and a farm has 32 bits is what their types say.
use borrow.Author.Rules.{rules}
use mathlib.Core.Path.{ap}
use Rattle.host_history.specs.Exports.{authorization_seen, exports}
use Rattle.host_history.proofs.authorize.Statement.{statement}
use Rattle.host_history.proofs.authorize.Tie as tie

returns : tie.Need-returns
unfolding exports
returns c =
    let random = c.shared_slice_known-3-1 in
    ((search rules, λ k. (random.given k).fits), ap authorization_seen c.poplarchime_authorize.ensures.0)

pub authorize_spec : {M : Type 1} → statement M
authorize_spec = tie.close (tie.spec (λ c κs. search rules) (λ c. search rules) (λ c. search rules) returns)
