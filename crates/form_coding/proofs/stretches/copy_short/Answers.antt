-- At a mark the stretch ends; else it goes on, up to the end of the text.
use Rattle.std.proofs.Common.{sym, arith, ◌≡◌, length}
use native.Mathlib.Nat.{add-zero}
use Rattle.octets.proofs.Searches.{index-le, scan-stop, scan-next}
use Rattle.octets.proofs.Writing.{append-nothing}
use Rattle.form_coding.specs.Turns.{is_mark}
use Rattle.form_coding.proofs.Turns.{copy_more}
use Rattle.form_coding.proofs.stretches.copy_short.Goals as goal

pub loop-i-init : goal.loop-i-init
loop-i-init c = let a = c.args in (omega arith, rw add-zero (append-nothing a.out.now a.at))

pub returns-then-is_mark : goal.returns-then-is_mark
returns-then-is_mark c =
    let l = c.loop-i in
    record { count = sym (scan-stop is_mark 0 c.args.s.now l.i c.loop-i-test.true l.invariant.0 (sym c.if-is_mark.ensures)); bytes = l.invariant.1 }

pub loop-i-preserved : goal.loop-i-preserved
loop-i-preserved c =
    let a = c.args in
    let l = c.loop-i in (
      scan-next is_mark 0 a.s.now l.i c.loop-i-test.true l.invariant.0 (sym c.if-is_mark.ensures),
      copy_more a.out.now a.at a.s.now l.out l.i c.loop-i-test.true l.invariant.1,
    )

pub returns : goal.returns
returns c =
    let l = c.loop-i in
    let s = c.args.s.now in
    let all : l.i ≡ length s = omega (arith, c.loop-i.auto.i-end, c.loop-i-test.false) in
    record { count = omega (arith, index-le is_mark s); bytes = rw (← all) l.invariant.1 }
