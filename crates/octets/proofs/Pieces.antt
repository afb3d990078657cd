-- Laws of `index_of` and `split_on`: how a reader goes from one piece of a text to the next.
--
-- In order: the bound of `index_of`, and std's search for the same place; `remaining`, the pieces from a position on, one piece
-- after the other.
-- Assumes nothing.
use Prim.Native.Nat.{ℕ, suc, ◌+◌, ◌-◌, ◌<◌, ◌≤◌}
use mathlib.Core.Path.{◌≡◌, refl, ◌∙◌, ap}
use mathlib.Core.List.{List, [], ◌∷◌}
use mathlib.Core.Bool.{cond}
use native.Mathlib.Nat.{add_assoc, suc-add}
use native.Mathlib.Omega.{arith}
use borrow.Author.Tests.{le-leb, lt-leb, leb-true, leb-false, ltb-false}
use lib.Dec.{leb, ltb, eqb, leb-suc-suc}
use lib.ListN.{length, take, drop, length-drop}
use lib.Seq.{drop-drop}
use Rattle.octets.proofs.Booleans.{by-test, cond_of}
use Rattle.octets.specs.Lists.{index_of, grow, split_on}
use Rattle.std.specs.List.{position, position_or_len}
use Rattle.std.specs.Option.{unwrap_or}
use Rattle.std.specs.Prelude.{Option}
use Rattle.octets.specs.Search.{any, index_where}
use Rattle.octets.proofs.Searches.{any-index as any_where}

-- ---- the first x of a list

pub index-le : (x : ℕ) (l : List ℕ) → index_of x l ≤ length l
unfolding index_of
index-le x [] = omega arith
index-le x (c ∷ t) = let h = index-le x t in cond_of (λ k. k ≤ suc (length t)) (eqb c x) 0 (suc (index_of x t)) (λ e. omega arith) (λ e. omega arith)

-- the place that `position` finds, or the length where it finds none
pub index-position : (x : ℕ) (l : List ℕ) → index_of x l ≡ position_or_len (λ c. eqb c x) l
unfolding index_of
index-position x [] = refl
index-position x (c ∷ t) = by-test (eqb c x) (λ e. rw e refl) (λ e. rw (e, index-position x t) (omega arith))

pub unwrap-position : (x : ℕ) (l : List ℕ) (r : Option ℕ) → r ≡ position (λ c. eqb c x) l → unwrap_or r (length l) ≡ index_of x l
unwrap-position x l r e =
    let at = index-position x l in
    let h = index-le x l in
    rw (e, ← at) (by-test (ltb (index_of x l) (length l)) (λ t. rw t refl) (λ f. rw f (omega (arith, ltb-false))))

-- a byte is in a list exactly where its first place is
pub any-index : (x : ℕ) (l : List ℕ) → any (λ b. eqb b x) l ≡ ltb (index_of x l) (length l)
unfolding index_where index_of
any-index x l = any_where (λ b. eqb b x) l ∙ ap (λ (i : ℕ). ltb i (length l)) (where-index l)
  where
    where-index : (m : List ℕ) → index_where (λ b. eqb b x) m ≡ index_of x m
    where-index [] = refl
    where-index (c ∷ t) = rw (where-index t)

-- ---- the pieces from a position on: none past the end, where a position is one past the last piece's end

abbrev pub remaining : ℕ → List ℕ → ℕ → List (List ℕ)
remaining x s at = cond (leb at (length s)) (split_on x (drop at s)) []

-- the first piece of a text, and the pieces past it
pub split-first : (x : ℕ) (l : List ℕ) → split_on x l ≡ take (index_of x l) l ∷ remaining x l (index_of x l + 1)
unfolding split_on index_of grow
split-first x [] = refl
split-first x (c ∷ t) =
    by-test (eqb c x) (λ e. rw (e, le-leb 1 (suc (length t)) (omega arith)))
    (λ e. rw (e, split-first x t, suc-add (index_of x t) 1, leb-suc-suc))

leb-shift : (at m n : ℕ) → at ≤ n → leb m (n - at) ≡ leb (at + m) n
leb-shift at m n h =
    by-test (leb (at + m) n) (λ e. let f = leb-true (at + m) n e in rw e (le-leb m (n - at) (omega arith)))
    (λ e. let f = leb-false (at + m) n e in rw e (lt-leb m (n - at) (omega arith)))

pub remaining-step : (x : ℕ) (s : List ℕ) (at : ℕ) → at ≤ length s
    → remaining x s at ≡ take (index_of x (drop at s)) (drop at s) ∷ remaining x s (at + index_of x (drop at s) + 1)
remaining-step x s at h =
    rw (le-leb at (length s) h) (split-first x (drop at s) ∙ rw (length-drop, leb-shift at _ _ h, drop-drop, add_assoc at (index_of x (drop at s)) 1))

pub remaining-end : (x : ℕ) (s : List ℕ) (at : ℕ) → length s < at → remaining x s at ≡ []
remaining-end x s at h = rw (lt-leb at (length s) h)

-- where a piece remains the position is within the text
pub remaining-within : (x : ℕ) (s : List ℕ) (at : ℕ) (p : List ℕ) (rest : List (List ℕ)) → remaining x s at ≡ p ∷ rest → at ≤ length s
remaining-within x s at p rest e =
    by-test (leb at (length s)) (leb-true at (length s))
    (λ f. let g : [] ≡ p ∷ rest = rw f at e in let z : ◌≡◌ {A = ℕ} 0 1 = cc in absurd (omega arith))
