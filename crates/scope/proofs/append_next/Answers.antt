-- The name stands at the front, or behind a space.
use Rattle.std.proofs.Common.{length, ap, arith}
use Rattle.octets.proofs.Writing.{append-both}
use Rattle.scope.specs.Value.{name_text}
use Rattle.scope.proofs.append_next.Goals as goal
use Rattle.scope.proofs.append_next.Goals.{then-first, else-first}

pub append-next-requires : goal.append-next-requires
unfolding name_text
append-next-requires c = omega (arith, rw c.if-first.false at c.requires.1)

pub append-requires : goal.append-requires
unfolding name_text
append-requires c =
    elim c.if-first.branch [
      | then-first w ↦ rw (w.next-is, w.out-is, c.name_at.ensures) (rw w.if-first.true at c.requires.1)
      | else-first w ↦ omega (arith, rw w.if-first.false at c.requires.1, w.append-next.ensures.end, ap length c.name_at.ensures)
    ]

pub returns : goal.returns
unfolding name_text
returns c =
    elim c.if-first.branch [
      | then-first w ↦ rw w.if-first.true (rw (w.out-is, w.next-is, c.name_at.ensures) at c.append.ensures)
      | else-first w ↦
          rw w.if-first.false (append-both w.append-next.ensures (rw (w.out-is, w.next-is, c.name_at.ensures) at c.append.ensures))
    ]
