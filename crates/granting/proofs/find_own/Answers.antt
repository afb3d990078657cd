-- What the look-up finds is the slot that the definition tests.
use Rattle.std.proofs.Common.{sym}
use Rattle.granting.proofs.Plans.{owned-there}
use Rattle.granting.proofs.find_own.Goals as goal

pub returns-then-is_live-slot : goal.returns-then-is_live-slot
returns-then-is_live-slot c =
    let found = sym c.in_ok-i.ensures in
    rw (owned-there _ _ _ _ _ found, ← c.slot_at-slot.ensures, ← c.is_live.ensures, c.if-is_live-slot.true) (sym found)

pub returns-else-is_live-slot : goal.returns-else-is_live-slot
returns-else-is_live-slot c =
    let found = sym c.in_ok-i.ensures in
    rw (owned-there _ _ _ _ _ found, ← c.slot_at-slot.ensures, ← c.is_live.ensures, c.if-is_live-slot.false)
