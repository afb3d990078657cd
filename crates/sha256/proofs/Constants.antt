-- The constants are what FIPS 180-4 says they are, each table checked as a whole: "the first thirty-two bits of the
-- fractional parts" of the cube roots of the first sixty-four primes, and of the square roots of the first eight.
-- Assumes nothing.
use Rattle.std.proofs.Common.{◌≡◌, ℕ, zero, suc, ◌+◌, ◌-◌, ◌*◌, ◌%◌, ◌^◌, Bool, true, false, cond, not, ◌&&◌, eqb, ltb, leb, List, [], ◌∷◌, refl}
use Rattle.octets.specs.Search.{any, keep}
use Rattle.sha256.specs.Constants.{round_constants, initial_hash}
use Rattle.sha256.specs.Digest.{state_words}

-- n numbers from a on
abbrev numbers : ℕ → ℕ → List ℕ
numbers a zero = []
numbers a (suc n) = a ∷ numbers (suc a) n

-- no number from 2 on below p divides it
abbrev is_prime : ℕ → Bool
is_prime p = not (any (λ d. eqb (p % d) 0) (numbers 2 (p - 2)))

-- the primes to n, in order
abbrev primes_to : ℕ → List ℕ
primes_to n = keep is_prime (numbers 2 (n - 1))

-- the whole part of a root of p, if it is at most q
abbrev whole_root : ℕ → ℕ → ℕ → ℕ
whole_root e p zero = 0
whole_root e p (suc q) = cond (leb (suc q ^ e) p) (suc q) (whole_root e p q)

-- k is the first 32 bits of the fractional part of the root of p: r is the root times 2^32, without what is behind the point
abbrev is_fraction : ℕ → ℕ → ℕ → Bool
is_fraction e p k =
    let r = whole_root e p p * 2 ^ 32 + k in
    let scaled = p * 2 ^ (32 * e) in
    ltb k (2 ^ 32) && leb (r ^ e) scaled && ltb scaled ((r + 1) ^ e)

-- both lists are as long, and each two of them pass
abbrev every_two : (ℕ → ℕ → Bool) → List ℕ → List ℕ → Bool
every_two f [] [] = true
every_two f [] (y ∷ ys) = false
every_two f (x ∷ xs) [] = false
every_two f (x ∷ xs) (y ∷ ys) = f x y && every_two f xs ys

pub round-constants : every_two (is_fraction 3) (primes_to 311) round_constants ≡ true
unfolding round_constants any keep
round-constants = refl

pub initial-hash : every_two (is_fraction 2) (primes_to 19) (state_words initial_hash) ≡ true
unfolding initial_hash any keep
initial-hash = refl
