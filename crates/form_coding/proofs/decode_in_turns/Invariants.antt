-- The turns so far are written and counted: to write what the rest decodes to gives the whole, and its turns are those that
-- are missing.
use Rattle.std.proofs.Common.{◌≡◌, ◌+◌, ◌≤◌, length}
use Rattle.octets.proofs.Writing.{Unwritten}
use Rattle.form_coding.specs.Coding.{decode}
use Rattle.form_coding.specs.Turns.{turns}
use Rattle.form_coding.proofs.decode_in_turns.Given as goal

abbrev pub invariant-loop-rest : goal.invariant-loop-rest
invariant-loop-rest l =
    record {
      room : l.n + length l.rest ≤ length l.v;
      few : l.turns + length l.rest ≤ length l.v;
      bytes : Unwritten l.fn.out 0 (decode l.v) l.out l.n (decode l.rest);
      count : l.turns + turns l.rest ≡ turns l.v;
    }

abbrev pub decreases-loop-rest : goal.decreases-loop-rest
decreases-loop-rest l = length l.rest
