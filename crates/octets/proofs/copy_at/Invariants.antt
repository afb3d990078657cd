-- The bytes from i on are left, and to store those gives the whole copy.
use Rattle.std.proofs.Common.{◌≡◌, ◌+◌, length, drop}
use Rattle.std.proofs.lemmas.List.Edits.{sets}
use Rattle.octets.proofs.copy_at.Given as goal

abbrev pub invariant-loop-i : goal.invariant-loop-i
invariant-loop-i l = (length l.b ≡ length l.fn.b) × (sets l.b (l.at + l.i) (drop l.i l.src) ≡ sets l.fn.b l.at l.src)
