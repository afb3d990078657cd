-- The words before t are in place: to make the rest from them gives the same words as from the first sixteen.
use Rattle.std.proofs.Common.{◌≡◌, ◌-◌, ◌≤◌, take, length}
use Rattle.sha256.specs.Digest.{extended}
use Rattle.sha256.proofs.extend_schedule.Given as goal

abbrev pub invariant-loop-t : goal.invariant-loop-t
invariant-loop-t l = (16 ≤ l.t) × (length l.w ≡ 64) × (extended (64 - l.t) (take l.t l.w) ≡ extended 48 (take 16 l.fn.w))
