-- Laws of `rank`: where a name stands in a list of names.
--
-- In order: the rank of a name by the first of the names and the others; in a list of names that differ a name ranks k
-- exactly where it is the k-th; no name ranks past the list.
-- Assumes nothing.
use Prim.Native.Nat.{ℕ, zero, suc, ◌+◌, ◌<◌, ◌≤◌}
use mathlib.Core.Path.{◌≡◌, refl, sym, ◌∙◌, ap}
use mathlib.Core.List.{List, [], ◌∷◌}
use mathlib.Core.Bool.{Bool, true, false, cond, not}
use native.Mathlib.Nat.{not-suc-le-zero}
use native.Mathlib.Numerals.{one-add}
use native.Mathlib.Omega.{arith}
use borrow.Author.Tests.{not-true, ne_eqb, lt-ltb, le-ltb, ltb-true, ltb-false}
use lib.Dec.{eqb, ltb, eqb-suc-suc, eqb-zero-suc}
use lib.ListN.{get_or, length}
use Rattle.std.specs.Prelude.{Option, Some, None}
use Rattle.std.specs.List.{position_or_len}
use Rattle.std.proofs.lemmas.List.Quantifiers.{position-Some}
use Rattle.octets.specs.Lists.{every, same}
use Rattle.octets.proofs.Booleans.{and_left, and_right}
use Rattle.octets.proofs.Lists.{same-eq, every-at}
use Rattle.form.specs.Places.{rank, distinct}

-- the rank is k
abbrev pub is_rank : ℕ → Option ℕ → Bool
is_rank k None = false
is_rank k (Some j) = eqb j k

-- ---- by the first of the names and the others

module _ (n m : List ℕ) (ms : List (List ℕ)) where
  -- where the first name that n equals stands among the others, or past them
  among : ℕ
  among = position_or_len (same n) ms

  rank-zero : is_rank 0 (rank n (m ∷ ms)) ≡ same n m
  unfolding among
  rank-zero = by (same n m) (ltb (1 + among) (suc (length ms)))
    where
      past : (b : Bool) → is_rank 0 (cond b (Some (1 + among)) None) ≡ false
      past true = ne_eqb (1 + among) 0 (λ e. omega arith)
      past false = refl

      by : (q b : Bool) → is_rank 0 (cond (ltb (cond (not q) (1 + among) 0) (suc (length ms))) (Some (cond (not q) (1 + among) 0)) None) ≡ q
      by true b = rw (lt-ltb 0 (suc (length ms)) (omega arith))
      by false b = past (ltb (1 + among) (suc (length ms)))

  rank-suc : (k : ℕ) → is_rank (suc k) (rank n (m ∷ ms)) ≡ cond (same n m) false (is_rank k (rank n ms))
  unfolding among
  rank-suc k = by (same n m)
    where
      past : (b : Bool) → ltb among (length ms) ≡ b
          → is_rank (suc k) (cond (ltb (1 + among) (suc (length ms))) (Some (1 + among)) None) ≡ is_rank k (cond b (Some among) None)
      past true e = rw (lt-ltb (1 + among) (suc (length ms)) (omega (arith, ltb-true among (length ms) e)), one-add, eqb-suc-suc)
      past false e = rw (le-ltb (1 + among) (suc (length ms)) (omega (arith, ltb-false among (length ms) e)))

      by : (q : Bool) → is_rank (suc k) (cond (ltb (cond (not q) (1 + among) 0) (suc (length ms))) (Some (cond (not q) (1 + among) 0)) None)
          ≡ cond q false (is_rank k (rank n ms))
      by true = rw (lt-ltb 0 (suc (length ms)) (omega arith), eqb-zero-suc)
      by false = past (ltb among (length ms)) refl

-- ---- a name of the list

-- a name ranks k exactly where it is the k-th
pub rank_is : (names : List (List ℕ)) → distinct names ≡ true → (n : List ℕ) (k : ℕ) → k < length names
    → is_rank k (rank n names) ≡ same n (get_or names k [])
unfolding distinct
rank_is [] d n k h = absurd (not-suc-le-zero h)
rank_is (m ∷ ms) d n zero h = rank-zero n m ms
rank_is (m ∷ ms) d n (suc k) h =
    rank-suc n m ms k ∙ by (same n m) refl (rank_is ms (and_right (every differs ms) (distinct ms) d) n k (omega arith))
  where
    differs : List ℕ → Bool
    differs j = not (same m j)

    other : same m (get_or ms k []) ≡ false
    other = not-true (same m (get_or ms k [])) (every-at differs ms [] (and_left (every differs ms) (distinct ms) d) k (omega arith))

    by : (q : Bool) → same n m ≡ q → is_rank k (rank n ms) ≡ same n (get_or ms k [])
        → cond q false (is_rank k (rank n ms)) ≡ same n (get_or ms k [])
    by true e ih = sym (ap (λ (j : List ℕ). same j (get_or ms k [])) (same-eq n m e) ∙ other)
    by false e ih = ih

-- ---- no name of the list

pub rank-not : (n : List ℕ) (names : List (List ℕ)) (k : ℕ) → length names ≤ k → is_rank k (rank n names) ≡ false
rank-not n names k h = by (rank n names) refl
  where
    by : (r : Option ℕ) → rank n names ≡ r → is_rank k r ≡ false
    by None e = refl
    by (Some j) e = ne_eqb j k (λ f. omega (arith, (position-Some (same n) names j [] e).0))
