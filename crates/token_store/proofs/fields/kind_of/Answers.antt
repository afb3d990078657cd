-- The kind stands first.
use Rattle.std.proofs.Common.{rules, sym, ap}
use Rattle.token_store.specs.declared.Slot.{Slot}
use Rattle.token_store.proofs.Slots.{slot-in}
use Rattle.token_store.proofs.fields.kind_of.Goals as goal

pub returns : goal.returns
returns c = sym (ap (λ (s : Slot). s.kind) (slot-in c.args.slot.now (search rules)))
