-- Each field lies where the layout says.
use Rattle.std.proofs.Common.{rules, refl}
use Rattle.token_store.proofs.Slots.{slot-in}
use Rattle.token_store.proofs.Slot.from_bytes.Goals as goal

pub returns : goal.returns
returns c =
    let read = slot-in c.args.slot.now (search rules) in
    rw (c.kind_of.ensures, c.bytes_at.ensures, c.read_be32.ensures, c.expiry_of.ensures, c.bytes_at-2.ensures, read) refl
