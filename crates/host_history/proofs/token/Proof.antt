-- The export's contract, its numbers read as a result; that random bytes are bytes is what their type says.
use borrow.Author.Rules.{rules}
use mathlib.Core.Path.{ap}
use Rattle.host_history.specs.Exports.{token_seen, exports}
use Rattle.host_history.proofs.token.Statement.{statement}
use Rattle.host_history.proofs.token.Tie as tie

returns : tie.Need-returns
unfolding exports
returns c =
    let random = c.shared_slice_known-4-1 in
    (λ k. (random.given k).fits, ap token_seen c.poplarchime_token.ensures.0)

pub token_spec : {M : Type 1} → statement M
token_spec = tie.close (tie.spec (λ c κs. search rules) (λ c. search rules) (λ c. search rules) returns)
