-- The slots below i are cleared where they come from the code, and the slots from i on are as they were.
use Rattle.std.proofs.Common.{◌≡◌, ◌≤◌}
use Rattle.octets.proofs.Searches.{replaced_to}
use Rattle.token_store.specs.Layout.{slot_count}
use Rattle.token_store.specs.Store.{decode, comes_from, free_slot, with_slots}
use Rattle.token_store.proofs.write.clear_tokens.Given as goal

abbrev pub invariant-loop-i : goal.invariant-loop-i
invariant-loop-i l =
    let was = decode l.initial.store in
    (l.i ≤ slot_count) × (decode l.store ≡ with_slots was (replaced_to free_slot (comes_from l.sought l.handle) l.i was.slots))
