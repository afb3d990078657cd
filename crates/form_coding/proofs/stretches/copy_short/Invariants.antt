-- The bytes so far are plain, and are copied.
use Rattle.std.proofs.Common.{◌+◌, ◌≤◌, take}
use Rattle.octets.specs.Writing.{Appended}
use Rattle.form_coding.specs.Turns.{stretch}
use Rattle.form_coding.proofs.stretches.copy_short.Given as goal

abbrev pub invariant-loop-i : goal.invariant-loop-i
invariant-loop-i l = (l.i ≤ stretch l.s) × Appended l.fn.out l.at (take l.i l.s) l.out (l.at + l.i)
