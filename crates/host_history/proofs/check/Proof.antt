-- The export's contract, its numbers read as a result.
use borrow.Author.Rules.{rules}
use mathlib.Core.Path.{ap}
use Rattle.host_history.specs.Exports.{check_seen, exports}
use Rattle.host_history.proofs.check.Statement.{statement}
use Rattle.host_history.proofs.check.Tie as tie

returns : tie.Need-returns
unfolding exports
returns c = (tt, ap check_seen c.poplarchime_check.ensures)

pub check_spec : {M : Type 1} → statement M
check_spec = tie.close (tie.spec (λ c κs. search rules) (λ c. search rules) returns)
