-- Slices of different lengths differ. Of equal lengths, each turn takes a byte off both rests, and at the end both are empty.
use Rattle.std.proofs.Common.{arith, sym, ◌≡◌, ◌∙◌, length, inl, inr}
use mathlib.Core.Bool.{and-true, and_assoc}
use Rattle.octets.specs.Lists.{same}
use Rattle.octets.proofs.Lists.{same_length, same_empty}
use Rattle.octets.proofs.equal.Goals as goal

pub returns-then-a-b : goal.returns-then-a-b
returns-then-a-b c = sym (same_length c.args.a.now c.args.b.now c.if-a-b.true)

pub loop-x-preserved : goal.loop-x-preserved
unfolding same
loop-x-preserved c =
    let s = c.in-Some.ensures.steps in
    let v = c.loop-x.invariant in
    let lengths = rw (s.0, s.1) at v.0 in
    (omega arith, rw and_assoc (rw (s.0, s.1) at v.1))

pub returns : goal.returns
returns c =
    let v = c.loop-x.invariant in
    let a = c.loop-x.x-iterator.a.rest.now in
    let empty : length a ≡ 0 = elim c.in-None.ensures.steps [ inl e ↦ e.1.0 | inr e ↦ v.0 ∙ e.1.0 ] in
    rw (same_empty a c.loop-x.x-iterator.b.rest.now empty (sym v.0 ∙ empty), and-true) at v.1
