-- The names before place k are written: to write the rest from `next` on gives the whole text.
use Rattle.octets.proofs.Writing.{Unwritten}
use Rattle.scope.specs.Value.{scope_text}
use Rattle.scope.proofs.Steps.{unwritten}
use Rattle.scope.proofs.append.Given as goal

abbrev pub invariant-loop-k : goal.invariant-loop-k
invariant-loop-k l = Unwritten l.fn.out l.at (scope_text l.set.bits) l.out l.next (unwritten l.set.bits l.k l.first)
