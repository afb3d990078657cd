-- The turns so far are the first bytes of e, and the rest decodes to the rest of e, just where v decodes to e.
use Rattle.std.proofs.Common.{◌≡◌, ◌+◌, ◌≤◌, ◌&&◌, length, drop}
use Rattle.octets.specs.Lists.{same}
use Rattle.form_coding.specs.Coding.{decode}
use Rattle.form_coding.proofs.value_equals.Given as goal

abbrev pub invariant-loop-rest : goal.invariant-loop-rest
invariant-loop-rest l =
    record {
      room : l.k + length l.rest ≤ length l.v;
      equal : (l.ok && same (decode l.rest) (drop l.k l.e)) ≡ same (decode l.v) l.e;
    }

abbrev pub decreases-loop-rest : goal.decreases-loop-rest
decreases-loop-rest l = length l.rest
