-- What the scan found so far, and whether the rests are the same, say whether the slices are.
use Rattle.std.proofs.Common.{◌≡◌, ◌&&◌, length}
use Rattle.octets.specs.Lists.{same}
use Rattle.octets.proofs.equal.Given as goal

abbrev pub invariant-loop-x : goal.invariant-loop-x
invariant-loop-x l =
    (length l.x-iterator.a.rest.now ≡ length l.x-iterator.b.rest.now)
    × ((l.ok && same l.x-iterator.a.rest.now l.x-iterator.b.rest.now) ≡ same l.fn.a l.fn.b)
