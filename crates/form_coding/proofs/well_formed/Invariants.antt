-- What the bytes so far say, together with what the rest says, is what the whole says.
use Rattle.std.proofs.Common.{◌≡◌, ◌&&◌, drop}
use Rattle.form_coding.specs.Coding.{well_formed}
use Rattle.form_coding.proofs.well_formed.Given as goal

abbrev pub invariant-loop-i : goal.invariant-loop-i
invariant-loop-i l = (l.ok && well_formed (drop l.i l.v)) ≡ well_formed l.v
