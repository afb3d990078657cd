-- The words before t are loaded: to store the others now gives all sixteen.
use Rattle.std.proofs.Common.{◌≡◌, map, drop}
use Rattle.std.proofs.lemmas.List.Edits.{sets}
use Rattle.octets.specs.BigEndian.{big_endian}
use Rattle.sha256.proofs.load_words.Given as goal

abbrev pub invariant-loop-t : goal.invariant-loop-t
invariant-loop-t l = sets l.w l.t (map big_endian (drop l.t l.bytes-items)) ≡ sets l.fn.w 0 (map big_endian l.bytes-items)
