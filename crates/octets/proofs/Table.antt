-- A rule that holds of finitely many numbers, or of each entry of a table, shown by one test that antt computes.
-- `every f` runs the test at each entry and its place; `at` turns it into the rule at any entry.
-- For the numbers below n: `below TEST n tt k h`.
-- A table that is made of another, entry by entry: `map_at`.
-- Assumes nothing.
use mathlib.Core.Path.{◌≡◌, refl, ◌∙◌, subst, sym}
use mathlib.Core.Bool.{Bool, true, false, ◌&&◌}
use mathlib.Core.List.{List, [], ◌∷◌, map}
use Prim.Native.Nat.{ℕ, zero, suc, ◌+◌, ◌<◌}
use native.Mathlib.Nat.{add-zero, zero-add, add-suc, suc-add, le_of_suc-le-suc, not-suc-le-zero}
use lib.Dec.{T}
use lib.ListN.{length, get_or, replicate, length-replicate}
use Rattle.octets.proofs.Booleans.{of_T}

pub both_left : (a b : Bool) → T (a && b) → T a
both_left true b t = tt
both_left false b t = t

pub both_right : (a b : Bool) → T (a && b) → T b
both_right true b t = t
both_right false b t = absurd t

module _ {A : Type 0} (f : ℕ → A → Bool) where
  -- the test passes at each entry of the list and its place, counted from i
  abbrev pub every_from : ℕ → List A → Bool
  every_from i [] = true
  every_from i (x ∷ xs) = f i x && every_from (suc i) xs

  from : (d : A) (xs : List A) (i : ℕ) → T (every_from i xs) → (k : ℕ) → k < length xs → T (f (i + k) (get_or xs k d))
  from d [] i t k h = absurd (not-suc-le-zero h)
  from d (x ∷ xs) i t zero h = subst (λ (m : ℕ). T (f m x)) (sym (add-zero i)) (both_left (f i x) (every_from (suc i) xs) t)
  from d (x ∷ xs) i t (suc k) h =
      subst (λ (m : ℕ). T (f m (get_or xs k d))) (suc-add i k ∙ sym (add-suc i k))
      (from d xs (suc i) (both_right (f i x) (every_from (suc i) xs) t) k (le_of_suc-le-suc h))

  pub at : (d : A) (xs : List A) → T (every_from 0 xs) → (k : ℕ) → k < length xs → T (f k (get_or xs k d))
  at d xs t k h = subst (λ (m : ℕ). T (f m (get_or xs k d))) (zero-add k) (from d xs 0 t k h)

-- the test passes at each number below n
pub below : (p : ℕ → Bool) (n : ℕ) → T (every_from (λ (k _ : ℕ). p k) 0 (replicate n 0)) → (k : ℕ) → k < n → p k ≡ true
below p n t k h = of_T (p k) (at (λ (k _ : ℕ). p k) 0 (replicate n 0) t k (rw length-replicate h))

pub map_at : {A B : Type 0} (f : A → B) (xs : List A) (k : ℕ) (d : B) (e : A) → k < length xs → get_or (map f xs) k d ≡ f (get_or xs k e)
map_at f [] k d e h = absurd (not-suc-le-zero h)
map_at f (x ∷ xs) zero d e h = refl
map_at f (x ∷ xs) (suc k) d e h = map_at f xs k d e (le_of_suc-le-suc h)
