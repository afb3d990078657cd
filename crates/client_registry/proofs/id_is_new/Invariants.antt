-- The records left are sound, and none of the others has the id exactly where none of those left has.
use Rattle.std.proofs.Common.{◌≡◌, true}
use Rattle.octets.specs.Lists.{every}
use Rattle.client_registry.specs.Registry.{sound_record, records, client_of, ids_of, differ}
use Rattle.client_registry.proofs.id_is_new.Given as goal

abbrev pub invariant-loop-other : goal.invariant-loop-other
invariant-loop-other l =
    record {
      can : (goal.iterator-loop-other).can_next l.other-iterator;
      ends : (goal.iterator-loop-other).is_finite l.other-iterator;
      sound : every sound_record (records l.other-iterator.rest.now) ≡ true;
      new : every (differ (client_of l.r).id) (ids_of l.other-iterator.rest.now) ≡ every (differ (client_of l.r).id) (ids_of l.initial.other-iterator.rest.now);
    }
