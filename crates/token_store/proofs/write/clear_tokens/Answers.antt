-- Up to slot i every token sought of that origin is freed, and nothing else is changed.
use Rattle.std.proofs.Common.{◌≡◌, get_or, sym, ap, ◌∙◌, List, arith, add-one}
use Rattle.octets.proofs.Searches.{replaced-none, replaced-at, replaced-next, replaced-past, replaced-all}
use Rattle.token_store.specs.Store.{Store, decode, slot_of, free_slot, with_slot, with_slots, comes_from}
use Rattle.token_store.specs.declared.Slot.{Slot}
use Rattle.token_store.proofs.Codec.{length-slots, piece_read}
use Rattle.token_store.proofs.write.clear_tokens.Goals as goal
use Rattle.token_store.proofs.write.clear_tokens.Goals.{After-comes_from, then-comes_from, else-comes_from}

pub loop-i-init : goal.loop-i-init
loop-i-init c =
    let a = c.args in
    let slots = (decode a.store.now).slots in
    (omega arith, ap (with_slots (decode a.store.now)) (replaced-none free_slot (comes_from a.sought a.handle.now) slots))

-- the test of the turn's slot is that of the slot as it was
tested : (c : After-comes_from)
    → let a = c.args in
    comes_from a.sought a.handle.now (get_or (decode a.store.now).slots c.loop-i.i free_slot) ≡ c.comes_from.result
tested c =
    let a = c.args in
    let i = c.loop-i.i in
    let k = comes_from a.sought a.handle.now in
    let slots = (decode a.store.now).slots in
    let now : slot_of (decode c.loop-i.store) i ≡ get_or slots i free_slot =
    ap (λ (g : Store). slot_of g i) c.loop-i.invariant.1 ∙ replaced-at free_slot k slots i
    in
    sym (c.comes_from.ensures ∙ ap k (sym (piece_read c.loop-i.store c.slots.result.now c.slots.ensures.slots i _ (omega arith)) ∙ now))

pub loop-i-preserved : goal.loop-i-preserved
loop-i-preserved c =
    let a = c.args in
    let i = c.loop-i.i in
    let k = comes_from a.sought a.handle.now in
    let slots = (decode a.store.now).slots in
    let left : List Slot → Store = with_slots (decode a.store.now) in
    let told = tested (goal.at.loop-i-preserved c).After-comes_from in
    elim c.if-comes_from.branch [
      | then-comes_from w ↦
          let now = ap decode w.store-is ∙ w.clear.ensures ∙ ap (λ (g : Store). with_slot g i free_slot) c.loop-i.invariant.1 in
          (omega arith, now ∙ rw add-one (ap left (replaced-next free_slot k slots i (told ∙ w.if-comes_from.true))))
      | else-comes_from w ↦
          let now = ap decode w.store-is ∙ c.loop-i.invariant.1 in
          (omega arith, now ∙ rw add-one (ap left (replaced-past free_slot k slots i (told ∙ w.if-comes_from.false))))
    ]

pub returns : goal.returns
returns c =
    let a = c.args in
    let slots = (decode a.store.now).slots in
    c.loop-i.invariant.1
    ∙ ap (with_slots (decode a.store.now))
    (replaced-all free_slot (comes_from a.sought a.handle.now) slots c.loop-i.i (omega (arith, length-slots a.store.now)))
