-- Laws of the table of names, and of the number of a text that may be one of them.
--
-- In order: what holds of each name holds of a text that is one; the number of a text, as a set; the place of a text
-- in the table.
--
-- Not here: several names (`Value`); sets alone (`Set`).
-- Assumes nothing.
use Prim.Native.Nat.{ℕ, ◌*◌, ◌^◌, ◌<◌}
use mathlib.Core.Path.{◌≡◌, refl, sym, ◌∙◌, ap}
use mathlib.Core.Bool.{Bool, true, false, beq, false≢true}
use mathlib.Core.List.{List, [], ◌∷◌}
use native.Mathlib.Omega.{arith}
use Rattle.std.specs.Prelude.{Some, None, is_some, position}
use Rattle.std.proofs.lemmas.List.Quantifiers.{position-Some}
use borrow.Author.Tests.{eqb-true, eqb-false, not-true, not-false, ltb-true}
use lib.Dec.{eqb, ltb}
use lib.ListN.{length}
use Rattle.octets.specs.Lists.{every, same}
use Rattle.octets.proofs.Booleans.{by-test, and_left, and_right, to-T, of_T, of-T-equal}
use Rattle.octets.proofs.Lists.{same-eq, every-at}
use Rattle.octets.proofs.Table.{every_from, at}
use Rattle.scope.specs.Set.{names, name_at, has, of_byte}
use Rattle.scope.specs.Value.{bit_from, bit_of, is_name, set_named}
use Rattle.scope.proofs.Set.{has-empty}

-- ---- what holds of each name holds of a text that is one

of-names : (p : List ℕ → Bool) (b : ℕ) (n : List ℕ) (ns : List (List ℕ)) → every p ns ≡ true → (bit_from b n ns ≡ 0 → ⊥) → p n ≡ true
unfolding bit_from every
of-names p b n [] e h = absurd (h refl)
of-names p b n (m ∷ ms) e h =
    by-test (same n m) (λ s. ap p (same-eq n m s) ∙ and_left (p m) (every p ms) e)
    (λ s. of-names p (b * 2) n ms (and_right (p m) (every p ms) e) (rw s at h))

pub of-name : (p : List ℕ → Bool) → every p names ≡ true → (n : List ℕ) → is_name n ≡ true → p n ≡ true
unfolding bit_of
of-name p e n i = of-names p 1 n names e (eqb-false (bit_of n) 0 (not-true (eqb (bit_of n) 0) i))

-- a text that is none has the number 0
no_name : (n : List ℕ) → is_name n ≡ false → bit_of n ≡ 0
no_name n e = eqb-true (bit_of n) 0 (not-false (eqb (bit_of n) 0) e)

-- each name of the table is one
pub name-known : (k : ℕ) → k < 8 → is_name (name_at k) ≡ true
unfolding names bit_of bit_from same every
name-known k h = every-at is_name names [] refl k h

-- ---- the number of a text, as a set: that one name, or none

bounded : every (λ n. ltb (bit_of n) 256) names ≡ true
unfolding names bit_of bit_from same every
bounded = refl

pub bit-bound : (n : List ℕ) → bit_of n < 256
bit-bound n =
    by-test (is_name n) (λ e. ltb-true (bit_of n) 256 (of-name (λ m. ltb (bit_of m) 256) bounded n e)) (λ e. omega (arith, no_name n e))

-- the number of n has the name at place k exactly if n is that name
single : List ℕ → ℕ → List ℕ → Bool
single n k m = beq (has (bit_of n) k) (same n m)

singles : every (λ n. every_from (single n) 0 names) names ≡ true
unfolding names bit_of bit_from same every single
singles = refl

count : length names ≡ 8
unfolding names
count = refl

pub has-bit : (n : List ℕ) (k : ℕ) → k < 8 → has (bit_of n) k ≡ same n (name_at k)
unfolding single
has-bit n k h = by-test (is_name n) one none
  where
    one : is_name n ≡ true → has (bit_of n) k ≡ same n (name_at k)
    one e =
        let t = to-T (of-name (λ m. every_from (single m) 0 names) singles n e) in
        of-T-equal (has (bit_of n) k) (same n (name_at k)) (at (single n) [] names t k (omega (arith, count)))

    none : is_name n ≡ false → has (bit_of n) k ≡ same n (name_at k)
    none e =
        by-test (same n (name_at k)) (λ d. absurd (false≢true (sym e ∙ ap is_name (same-eq n (name_at k) d) ∙ name-known k h)))
        (λ d. ap (λ (b : ℕ). has b k) (no_name n e) ∙ has-empty k ∙ sym d)

-- ---- where a text stands in the table gives the set of the one name that it is

-- name k of the table has the number 2 ^ k, and stands there
numbers : every_from (λ k n. eqb (bit_of n) (2 ^ k)) 0 names ≡ true
unfolding names bit_of bit_from same every
numbers = refl

placed : every (λ n. is_some (position (same n) names)) names ≡ true
unfolding names same every
placed = refl

pub named-at : (n : List ℕ) (k : ℕ) → position (same n) names ≡ Some k → (k < 8) × (set_named n ≡ Some (of_byte (2 ^ k)))
unfolding set_named
named-at n k e =
    let found = position-Some (same n) names k [] e in
    let h : k < 8 = omega (arith, found.0, count) in
    let is : n ≡ name_at k = same-eq n (name_at k) found.1 in
    let known : is_name n ≡ true = ap is_name is ∙ name-known k h in
    let number = eqb-true (bit_of (name_at k)) (2 ^ k) (of_T _ (at (λ j m. eqb (bit_of m) (2 ^ j)) [] names (to-T numbers) k found.0)) in
    (h, rw (known, ap bit_of is ∙ number))

pub named-none : (n : List ℕ) → position (same n) names ≡ None → set_named n ≡ None
unfolding set_named
named-none n e =
    by-test (is_name n)
    (λ t. absurd (false≢true (sym (ap is_some e) ∙ of-name (λ m. is_some (position (same m) names)) placed n t)))
    (λ f. rw f)
