-- The records left are those behind the first `number`, whose clients do not have the id, and the next starts at `start`.
use Rattle.client_registry.specs.Registry.{records}
use Rattle.client_registry.proofs.Lookup.{Passed}
use Rattle.client_registry.proofs.find.Given as goal

abbrev pub invariant-loop-r : goal.invariant-loop-r
invariant-loop-r l =
    record {
      can : (goal.iterator-loop-r).can_next l.r-iterator;
      ends : (goal.iterator-loop-r).is_finite l.r-iterator;
      passed : Passed l.b l.id (records l.r-iterator.rest.now) l.start l.number;
    }
