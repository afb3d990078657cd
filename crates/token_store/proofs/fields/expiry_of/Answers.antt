-- The expiry lies where the layout says.
use Rattle.std.proofs.Common.{rules, sym, ap, ◌∙◌}
use Rattle.token_store.specs.declared.Slot.{Slot}
use Rattle.token_store.proofs.Slots.{slot-in}
use Rattle.token_store.proofs.fields.expiry_of.Goals as goal

pub returns : goal.returns
returns c = c.read_be64.ensures ∙ sym (ap (λ (s : Slot). s.expiry) (slot-in c.args.slot.now (search rules)))
