-- The loop stores the bytes from the last to the first: i bytes of v are left, and to store those gives the whole.
use Rattle.std.proofs.Common.{◌≡◌, length}
use Rattle.std.proofs.lemmas.List.Edits.{sets}
use Rattle.octets.specs.BigEndian.{big_endian_bytes}
use Rattle.octets.proofs.write_be.Given as goal

abbrev pub invariant-loop-i : goal.invariant-loop-i
invariant-loop-i l =
    (length l.b ≡ length l.fn.b) × (sets l.b l.at (big_endian_bytes l.i l.v) ≡ sets l.fn.b l.at (big_endian_bytes l.n l.x))
