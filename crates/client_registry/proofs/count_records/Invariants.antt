-- The records counted and those left are all the records, and those left are sound exactly where all are.
use Rattle.std.proofs.Common.{◌≡◌, ◌+◌, ◌≤◌, length}
use Rattle.octets.specs.Lists.{every}
use Rattle.client_registry.specs.Layout.{max_clients}
use Rattle.client_registry.specs.Registry.{sound_record, records}
use Rattle.client_registry.proofs.count_records.Given as goal

abbrev pub invariant-loop-r : goal.invariant-loop-r
invariant-loop-r l =
    let left = records l.r-iterator.rest.now in
    record {
      can : (goal.iterator-loop-r).can_next l.r-iterator;
      ends : (goal.iterator-loop-r).is_finite l.r-iterator;
      counted : l.n + length left ≡ length (records l.b);
      most : l.n ≤ max_clients;
      sound : every sound_record left ≡ every sound_record (records l.b);
    }
