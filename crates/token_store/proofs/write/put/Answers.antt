-- The stored bytes are those of the slot, which read back as the slot.
use Rattle.std.proofs.Common.{rules, ap, ◌∙◌}
use Rattle.token_store.specs.Store.{encode_slot, decode, with_slot}
use Rattle.token_store.proofs.Slots.{slot-back, length-slot}
use Rattle.token_store.proofs.Codec.{decode-put}
use Rattle.token_store.proofs.write.put.Goals as goal

pub returns : goal.returns
returns c =
    let b = c.args.store.now in
    let slot = c.args.s in
    let fits = c.to_bytes.ensures.1 in
    ap decode (c.copy_at.ensures ∙ rw (c.slot_start.ensures, c.to_bytes.ensures.0))
    ∙ decode-put b c.args.i (encode_slot slot) (search rules) c.requires (length-slot slot fits)
    ∙ ap (with_slot (decode b) c.args.i) (slot-back slot fits)
