-- The stored zeros are the bytes of a free slot.
use Rattle.std.proofs.Common.{rules, ap, ◌∙◌, ℕ, replicate}
use Rattle.std.proofs.lemmas.List.{length-replicate}
use Rattle.token_store.specs.Layout.{slot_size}
use Rattle.token_store.specs.Store.{decode, with_slot}
use Rattle.token_store.proofs.Slots.{free-read}
use Rattle.token_store.proofs.Codec.{decode-put}
use Rattle.token_store.proofs.write.clear.Goals as goal

pub returns : goal.returns
returns c =
    let b = c.args.store.now in
    ap decode (c.clear_at.ensures ∙ rw c.slot_start.ensures)
    ∙ decode-put b c.args.i (replicate slot_size 0) (search rules) c.requires (length-replicate {A = ℕ} slot_size 0)
    ∙ ap (with_slot (decode b) c.args.i) free-read
