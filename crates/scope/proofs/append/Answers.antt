-- What place k gives, the name where the set has it, is the first of what is left.
use Rattle.std.proofs.Common.{length, ap, arith, sym, ◌∙◌, length-append}
use Rattle.octets.proofs.Writing.{write-start, write-more, write-end}
use Rattle.scope.specs.Value.{scope_text}
use Rattle.scope.proofs.Steps.{text-start, text-chosen, text-skipped, text-end}
use Rattle.scope.proofs.Value.{text-length}
use Rattle.scope.proofs.append.Goals as goal
use Rattle.scope.proofs.append.Goals.{then-has, else-has}

pub loop-k-init : goal.loop-k-init
loop-k-init c = rw text-start (write-start c.args.out.now c.args.at (scope_text c.args.set.bits))

pub append_next-next-requires : goal.append_next-next-requires
append_next-next-requires c =
    let l = c.loop-k in
    let here = text-chosen c.args.set.bits l.k l.first c.loop-k-test.true (sym c.has.ensures ∙ c.if-has.true) in
    (c.loop-k-test.true, omega (arith, simp length-append at (ap length here), l.invariant.end, text-length c.args.set.bits, c.requires))

pub loop-k-preserved : goal.loop-k-preserved
loop-k-preserved c =
    let set = c.args.set.bits in
    let l = c.loop-k in
    elim c.if-has.branch [
      | then-has w ↦
          let here = text-chosen set l.k l.first c.loop-k-test.true (sym c.has.ensures ∙ w.if-has.true) in
          rw (w.out-is, w.next-is, w.first-is) (write-more (rw here at l.invariant) w.append_next-next.ensures)
      | else-has w ↦
          let here = text-skipped set l.k l.first c.loop-k-test.true (sym c.has.ensures ∙ w.if-has.false) in
          rw (w.out-is, w.next-is, w.first-is) (rw here at l.invariant)
    ]

pub returns : goal.returns
returns c = write-end (rw (text-end c.args.set.bits c.loop-k.k c.loop-k.first c.loop-k-test.false) at c.loop-k.invariant)
