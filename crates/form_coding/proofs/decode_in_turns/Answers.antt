-- A turn takes some bytes of what is left, gives no more than it takes, and writes the next of the whole.
use Rattle.std.proofs.Common.{sym, ◌∙◌, ap, arith, ℕ, suc, ◌≡◌, ◌-◌, ◌<◌, List, ◌++◌, length, length-drop, drop, eqb-true}
use borrow.Author.Tests.{eqb-false}
use native.Mathlib.Nat.{zero-add}
use Rattle.octets.specs.Lists.{part}
use Rattle.octets.proofs.Lists.{part-rest}
use Rattle.octets.proofs.Writing.{write-start, write-more, write-end, append-front}
use Rattle.form_coding.specs.Coding.{decode}
use Rattle.form_coding.specs.Turns.{turns, turn_width, turn_bytes}
use Rattle.form_coding.proofs.Coding.{decode-end}
use Rattle.form_coding.proofs.Turns.{turn-fits, decode-turn, turns-turn, turns-end}
use Rattle.form_coding.proofs.decode_in_turns.Goals as goal

pub loop-rest-init : goal.loop-rest-init
loop-rest-init c =
    let a = c.args in
    record { room = omega arith; few = omega arith; bytes = write-start a.out.now 0 (decode a.v.now); count = zero-add (turns a.v.now) }

pub loop-rest-smaller : goal.loop-rest-smaller
loop-rest-smaller c =
    let s = c.loop-rest.rest.now in
    let w = c.decode_turn-t.result.width in
    let left = ap length (part-rest s w) ∙ length-drop w s in
    omega (arith, left, c.decode_turn-t.ensures.within)

pub loop-rest-preserved : goal.loop-rest-preserved
loop-rest-preserved c =
    let a = c.args in
    let l = c.loop-rest in
    let s = l.rest.now in
    let t = c.decode_turn-t in
    let not_empty = eqb-false (length s) 0 (sym c.loop-rest-test.ensures) in
    let some : 0 < length s = omega arith in
    let fits = turn-fits s some in
    let rest = part-rest s t.result.width in
    let left = ap length rest ∙ length-drop t.result.width s in
    let behind : drop (turn_width s) s ≡ part s t.result.width (length s - t.result.width) =
    ap (λ (w : ℕ). drop w s) (sym t.ensures.width) ∙ sym rest in
    let next = decode-turn s some ∙ ap (λ (r : List ℕ). turn_bytes s ++ decode r) behind in
    let counted = turns-turn s some ∙ ap (λ (r : List ℕ). suc (turns r)) behind in
    record {
      room = omega (arith, left, fits, t.ensures.bytes.end, t.ensures.within, t.ensures.width);
      few = omega (arith, left, t.ensures.within);
      bytes = write-more (rw next at l.invariant.bytes) t.ensures.bytes;
      count = omega (arith, counted, l.invariant.count);
    }

pub returns : goal.returns
returns c =
    let l = c.loop-rest in
    let empty = eqb-true (length l.rest.now) 0 (sym c.loop-rest-test.ensures) in
    let all = write-end (rw (decode-end l.rest.now empty) at l.invariant.bytes) in
    let counted : l.turns ≡ turns c.args.v.now = omega (arith, l.invariant.count, turns-end l.rest.now empty) in
    record { answer = rw (append-front all, counted); bytes = all.bytes }
