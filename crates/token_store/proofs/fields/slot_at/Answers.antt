-- The slot is read from the bytes of its chunk.
use Rattle.std.proofs.Common.{sym, ◌∙◌}
use Rattle.token_store.proofs.Codec.{piece_read}
use Rattle.token_store.proofs.fields.slot_at.Goals as goal

pub returns : goal.returns
returns c = c.from_bytes.ensures ∙ sym (piece_read c.args.store.now c.slots.result.now c.slots.ensures.slots c.args.i _ c.requires)
