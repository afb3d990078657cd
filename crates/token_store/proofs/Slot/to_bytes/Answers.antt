-- The seven stores are one store of the slot's bytes, which covers the whole array.
use Rattle.std.proofs.Common.{rules, ℕ, replicate, ◌∙◌}
use Rattle.octets.proofs.Stores.{sets-all}
use Rattle.token_store.specs.Layout.{slot_size}
use Rattle.token_store.specs.Store.{SlotFits, encode_slot}
use Rattle.token_store.proofs.Slots.{length-slot, store-slot}
use Rattle.token_store.proofs.Slot.to_bytes.Goals as goal

pub returns : goal.returns
returns c =
    let s = c.args.self in
    let zeros = replicate {A = ℕ} slot_size 0 in
    let fit : SlotFits s = record { kind = search rules; handle = search rules; client = search rules; farm = search rules; scope = search rules; expiry = search rules; link = search rules } in
    let stored =
    store-slot zeros 0 s fit _ _ _ _ c.copy_at.ensures c.write_be.ensures c.write_be-2.ensures c.copy_at-2.ensures
    in
    (stored ∙ sets-all zeros (encode_slot s) (length-slot s fit), fit)
