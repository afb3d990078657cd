-- The scan has tested the bytes before b, and `ok` says whether they all pass.
use Rattle.std.proofs.Common.{◌≡◌, ◌<◌, ℕ, Bool, take}
use Rattle.octets.specs.Lists.{every}
use Rattle.octets.proofs.all.Given as goal

abbrev pub invariant-loop-b : goal.invariant-loop-b
invariant-loop-b g l =
    (p : ℕ → Bool) → ((b : ℕ) (passes : Bool) → b < 256 → goal.F-post g l.test b passes → passes ≡ p b) → l.ok ≡ every p (take l.b-index l.s)
