-- The records left are sound, and no two of all have the same id exactly where no two of those left have.
use Rattle.std.proofs.Common.{◌≡◌, true}
use Rattle.octets.specs.Lists.{every}
use Rattle.client_registry.specs.Registry.{sound_record, records, ids_of, distinct}
use Rattle.client_registry.proofs.ids_are_distinct.Given as goal

abbrev pub invariant-loop-r : goal.invariant-loop-r
invariant-loop-r l =
    record {
      sound : every sound_record (records l.others.rest.now) ≡ true;
      distinct : distinct (ids_of l.others.rest.now) ≡ distinct (ids_of l.b);
    }
