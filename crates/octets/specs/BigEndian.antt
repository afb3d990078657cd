-- Numbers in bytes, the highest byte first, at any width.
use Rattle.std.specs.Prelude.{ℕ, zero, suc, ◌+◌, ◌*◌, ◌/◌, ◌%◌, List, [], ◌∷◌, ◌++◌}

-- the number whose digits to the base 256 are those of a, then the list's
unfoldable pub big_endian_from : ℕ → List ℕ → ℕ
big_endian_from a [] = a
big_endian_from a (b ∷ bs) = big_endian_from (a * 256 + b) bs

-- the number that the bytes stand for
abbrev pub big_endian : List ℕ → ℕ
big_endian l = big_endian_from 0 l

-- the n bytes of x, which are the last n digits of x to the base 256
unfoldable pub big_endian_bytes : ℕ → ℕ → List ℕ
big_endian_bytes zero x = []
big_endian_bytes (suc n) x = big_endian_bytes n (x / 256) ++ ((x % 256) ∷ [])
