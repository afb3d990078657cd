-- What v decodes to is no longer than v. A turn takes some bytes of what is left, and its bytes are those of e or not.
use Rattle.std.proofs.Common.{sym, ◌∙◌, ap, arith, ℕ, ◌≡◌, ◌-◌, ◌<◌, length, length-drop, drop, eqb-true}
use borrow.Author.Tests.{eqb-false}
use Rattle.octets.specs.Lists.{part}
use Rattle.form_coding.specs.Coding.{decode}
use Rattle.form_coding.specs.Turns.{turn_width}
use Rattle.octets.proofs.Lists.{part-rest, same_length}
use Rattle.form_coding.proofs.Coding.{compare-done}
use Rattle.form_coding.proofs.Turns.{turn-fits, compare-more}
use Rattle.form_coding.proofs.RoundTrip.{decode-length}
use Rattle.form_coding.proofs.value_equals.Goals as goal

pub returns-then-v-e : goal.returns-then-v-e
returns-then-v-e c =
    let v = c.args.v.now in
    sym (same_length (decode v) c.args.e.now (λ e. omega (arith, e, decode-length v, c.if-v-e.true)))

pub loop-rest-smaller : goal.loop-rest-smaller
loop-rest-smaller c =
    let s = c.loop-rest.rest.now in
    let w = c.compare_turn-t.result.width in
    let left = ap length (part-rest s w) ∙ length-drop w s in
    omega (arith, left, c.compare_turn-t.ensures.within)

pub loop-rest-preserved : goal.loop-rest-preserved
loop-rest-preserved c =
    let l = c.loop-rest in
    let s = l.rest.now in
    let t = c.compare_turn-t in
    let not_empty = eqb-false (length s) 0 (sym c.loop-rest-test.ensures) in
    let some : 0 < length s = omega arith in
    let fits = turn-fits s some in
    let rest = part-rest s t.result.width in
    let left = ap length rest ∙ length-drop t.result.width s in
    let behind : part s t.result.width (length s - t.result.width) ≡ drop (turn_width s) s =
    rest ∙ ap (λ (w : ℕ). drop w s) t.ensures.place.0 in
    record {
      room = omega (arith, left, fits, t.ensures.place, t.ensures.within);
      equal = rw (t.ensures.equal, behind, t.ensures.place.1) (compare-more l.ok s c.args.e.now l.k some ∙ l.invariant.equal);
    }

pub returns : goal.returns
returns c =
    let l = c.loop-rest in
    let empty = eqb-true (length l.rest.now) 0 (sym c.loop-rest-test.ensures) in
    compare-done l.ok l.rest.now c.args.e.now l.k empty ∙ l.invariant.equal
