-- Words, the operations on them and the six functions of SHA-256: FIPS 180-4, sections 2.2.2, 3.2 and 4.1.2.
--
-- A word is a number below 2 ^ 32. The standard's ∧, ∨ and ⊕ are `bit_and`, `bit_or` and `bit_xor` of the library.
use Rattle.std.specs.Prelude.{ℕ, ◌+◌, ◌-◌, ◌*◌, ◌/◌, ◌%◌, ◌^◌, ◌<◌, bit_and, bit_or, bit_xor}

-- "addition modulo 2^32"
abbrev pub plus : ℕ → ℕ → ℕ
plus x y = (x + y) % 2 ^ 32

-- the bitwise complement
abbrev pub complement : ℕ → ℕ
complement x = 2 ^ 32 - 1 - x

-- "SHR^n(x) = x >> n"
abbrev pub shr : ℕ → ℕ → ℕ
shr n x = x / 2 ^ n

-- a number of bits that a word can be turned by: "0 ≤ n < w", and not by none
abbrev pub IsTurn : ℕ → Type 0
IsTurn n = (0 < n) × (n < 32)

-- "ROTR^n(x) = (x >> n) ∨ (x << w - n)"
unfoldable pub rotr : ℕ → ℕ → ℕ
rotr n x = bit_or (x / 2 ^ n) (x * 2 ^ (32 - n) % 2 ^ 32)

-- (4.2) "Ch(x, y, z) = (x ∧ y) ⊕ (¬x ∧ z)"
unfoldable pub ch : ℕ → ℕ → ℕ → ℕ
ch x y z = bit_xor (bit_and x y) (bit_and (complement x) z)

-- (4.3) "Maj(x, y, z) = (x ∧ y) ⊕ (x ∧ z) ⊕ (y ∧ z)"
unfoldable pub maj : ℕ → ℕ → ℕ → ℕ
maj x y z = bit_xor (bit_xor (bit_and x y) (bit_and x z)) (bit_and y z)

-- what Σ0 and Σ1 have in common: "ROTR^i(x) ⊕ ROTR^j(x) ⊕ ROTR^k(x)"
unfoldable pub big_sigma : ℕ → ℕ → ℕ → ℕ → ℕ
big_sigma i j k x = bit_xor (bit_xor (rotr i x) (rotr j x)) (rotr k x)

-- what σ0 and σ1 have in common: "ROTR^i(x) ⊕ ROTR^j(x) ⊕ SHR^k(x)"
unfoldable pub small_sigma : ℕ → ℕ → ℕ → ℕ → ℕ
small_sigma i j k x = bit_xor (bit_xor (rotr i x) (rotr j x)) (shr k x)

-- (4.4) to (4.7): Σ0, Σ1, σ0 and σ1
abbrev pub big_sigma0 : ℕ → ℕ
big_sigma0 = big_sigma 2 13 22

abbrev pub big_sigma1 : ℕ → ℕ
big_sigma1 = big_sigma 6 11 25

abbrev pub small_sigma0 : ℕ → ℕ
small_sigma0 = small_sigma 7 18 3

abbrev pub small_sigma1 : ℕ → ℕ
small_sigma1 = small_sigma 17 19 10
