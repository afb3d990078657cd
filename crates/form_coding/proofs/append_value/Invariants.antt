-- The bytes so far are written: to write the rest from `next` on gives the whole. Three bytes of room are left for each.
use Rattle.std.proofs.Common.{◌+◌, ◌-◌, ◌*◌, ◌≤◌, length, drop}
use Rattle.octets.proofs.Writing.{Unwritten}
use Rattle.form_coding.specs.Coding.{encode}
use Rattle.form_coding.proofs.append_value.Given as goal

abbrev pub invariant-loop-b : goal.invariant-loop-b
invariant-loop-b l =
    (l.next + 3 * (length l.v - l.b-index) ≤ length l.out) × Unwritten l.fn.out l.at (encode l.v) l.out l.next (encode (drop l.b-index l.v))
