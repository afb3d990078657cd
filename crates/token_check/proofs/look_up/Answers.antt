-- What the look-up finds is the slot of the definition; where it finds nothing that is a free slot, which is never live.
use Rattle.std.proofs.Common.{sym, ◌∙◌}
use Rattle.token_store.specs.Store.{sought_key}
use Rattle.token_store.specs.declared.Sought.TheVariants.{Access}
use Rattle.token_store.proofs.Scans.{found_first, found_none}
use Rattle.token_store.proofs.Slots.{free-dead}
use Rattle.protocol.specs.Granting.{check_slots}
use Rattle.token_check.proofs.look_up.Goals as goal

pub returns-in_default : goal.returns-in_default
unfolding check_slots
returns-in_default c =
    let none = found_none (sought_key Access c.args.presented) c.args.store.now (sym c.find.ensures ∙ c.in_default.is) in
    rw (none.taken, free-dead c.args.t)

pub returns-then-not-is_live : goal.returns-then-not-is_live
unfolding check_slots
returns-then-not-is_live c =
    let found = found_first (sought_key Access c.args.presented) c.args.store.now c.in-Some.i (sym c.find.ensures ∙ c.in-Some.is) in
    rw (found.taken, ← c.slot_at-token.ensures, ← c.is_live.ensures, c.if-not-is_live.true)

pub returns : goal.returns
unfolding check_slots
returns c =
    let found = found_first (sought_key Access c.args.presented) c.args.store.now c.in-Some.i (sym c.find.ensures ∙ c.in-Some.is) in
    rw (found.taken, ← c.slot_at-token.ensures, ← c.is_live.ensures, c.if-not-is_live.false, c.live_token.ensures)
