-- The blocks so far are plain, so that they lie within the stretch.
use Rattle.std.proofs.Common.{◌*◌, ◌≤◌}
use Rattle.form_coding.specs.Turns.{stretch}
use Rattle.form_coding.proofs.stretches.plain_blocks.Given as goal

abbrev pub invariant-loop-i : goal.invariant-loop-i
invariant-loop-i l = l.i * 16 ≤ stretch l.s
