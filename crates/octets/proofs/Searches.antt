-- Laws of searches (specs/Search.antt), generic over the element type and the test.
--
-- In order: the place of the first that passes: its bound, what stands at it and before it; a scan that goes up to it; the first
-- that passes, the list with another element in its place, and whether any passes, by that place;
-- whether every one does; what holds of every element; two lists that agree; a scan that replaces all that pass.
--
-- Not here: counts, and what a change of elements does to them (`Counting`).
-- Assumes nothing.
use lib.Seq.{take_all}
use mathlib.Core.Path.{◌≡◌, refl, sym, ap, ◌∙◌, ap₂}
use mathlib.Core.Bool.{Bool, true, false, cond, not, false≢true, ◌&&◌, ◌||◌}
use mathlib.Core.List.{List, [], ◌∷◌, ◌++◌, map, append-nil}
use Prim.Native.Nat.{ℕ, zero, suc, ◌+◌, ◌≤◌, ◌<◌}
use native.Mathlib.Nat.{not-suc-le-zero, le_of_suc-le-suc}
use native.Mathlib.Decide.{dec_lt}
use native.Mathlib.Omega.{arith}
use borrow.Author.Tests.{lt-ltb}
use lib.Dec.{ltb, leb-suc-suc}
use lib.ListN.{length, get_or, set, take, drop, drop_of_length-le}
use Rattle.std.specs.List.{list_any}
use Rattle.octets.specs.Lists.{every}
use Rattle.octets.specs.Search.{any, first_or, index_where, replace_first, replace_all}
use Rattle.octets.proofs.Booleans.{cond_of, and_left, and_right}

module _ {A : Type 0} (p : A → Bool) where
  -- ---- the place of the first that passes

  pub index-le : (l : List A) → index_where p l ≤ length l
  unfolding index_where
  index-le [] = omega arith
  index-le (x ∷ xs) = by (p x) (index-le xs)
    where
      by : (q : Bool) → index_where p xs ≤ length xs → cond q 0 (suc (index_where p xs)) ≤ suc (length xs)
      by true h = omega arith
      by false h = omega arith

  module _ (d : A) where
    -- what stands there passes
    pub index_at : (l : List A) → index_where p l < length l → p (get_or l (index_where p l) d) ≡ true
    unfolding index_where
    index_at [] h = absurd (not-suc-le-zero h)
    index_at (x ∷ xs) h = by (p x) refl (index_at xs) h
      where
        by : (q : Bool) → p x ≡ q → (index_where p xs < length xs → p (get_or xs (index_where p xs) d) ≡ true)
            → cond q 0 (suc (index_where p xs)) < suc (length xs) → p (get_or (x ∷ xs) (cond q 0 (suc (index_where p xs))) d) ≡ true
        by true e ih h = e
        by false e ih h = ih (omega arith)

    -- nothing before it does
    pub index-before : (l : List A) (k : ℕ) → k < index_where p l → p (get_or l k d) ≡ false
    unfolding index_where
    index-before [] k h = absurd (not-suc-le-zero h)
    index-before (x ∷ xs) k h = by (p x) refl k h (index-before xs)
      where
        by : (q : Bool) → p x ≡ q → (k : ℕ) → k < cond q 0 (suc (index_where p xs)) → ((j : ℕ) → j < index_where p xs → p (get_or xs j d) ≡ false)
            → p (get_or (x ∷ xs) k d) ≡ false
        by true e k h ih = absurd (not-suc-le-zero h)
        by false e zero h ih = e
        by false e (suc j) h ih = ih j (le_of_suc-le-suc h)

    -- ---- a scan from the lowest place on: nothing before place i passes

    module _ (l : List A) (i : ℕ) (within : i < length l) (passed : i ≤ index_where p l) where
      pub scan-stop : p (get_or l i d) ≡ true → index_where p l ≡ i
      scan-stop e = by (dec_lt i (index_where p l))
        where
          by : Dec (i < index_where p l) → index_where p l ≡ i
          by (yes h) = absurd (false≢true (sym (index-before l i h) ∙ e))
          by (no h) = omega arith

      pub scan-next : p (get_or l i d) ≡ false → i + 1 ≤ index_where p l
      scan-next e = by (dec_lt i (index_where p l))
        where
          by : Dec (i < index_where p l) → i + 1 ≤ index_where p l
          by (yes h) = omega arith
          by (no h) =
              let here : index_where p l ≡ i = omega arith in
              absurd (false≢true (sym e ∙ ap (λ (k : ℕ). p (get_or l k d)) (sym here) ∙ index_at l (omega arith)))

    -- ---- by that place

    pub first_or-index : (l : List A) → first_or d p l ≡ get_or l (index_where p l) d
    unfolding first_or index_where
    first_or-index [] = refl
    first_or-index (x ∷ xs) = by (p x) (first_or-index xs)
      where
        by : (q : Bool) → first_or d p xs ≡ get_or xs (index_where p xs) d
            → cond q x (first_or d p xs) ≡ get_or (x ∷ xs) (cond q 0 (suc (index_where p xs))) d
        by true ih = refl
        by false ih = ih

  pub replace_first-index : (y : A) (l : List A) → replace_first p y l ≡ set l (index_where p l) y
  unfolding replace_first index_where
  replace_first-index y [] = refl
  replace_first-index y (x ∷ xs) = by (p x) (replace_first-index y xs)
    where
      by : (q : Bool) → replace_first p y xs ≡ set xs (index_where p xs) y
          → cond q (y ∷ xs) (x ∷ replace_first p y xs) ≡ set (x ∷ xs) (cond q 0 (suc (index_where p xs))) y
      by true ih = refl
      by false ih = ap {B = List A} (λ r. x ∷ r) ih

  -- std's word for it
  pub any-list : (l : List A) → list_any p l ≡ any p l
  unfolding any
  any-list [] = refl
  any-list (x ∷ xs) = ap (λ (b : Bool). p x || b) (any-list xs)

  pub any-index : (l : List A) → any p l ≡ ltb (index_where p l) (length l)
  unfolding any index_where
  any-index [] = refl
  any-index (x ∷ xs) = by (p x) (any-index xs)
    where
      by : (q : Bool) → any p xs ≡ ltb (index_where p xs) (length xs) → (q || any p xs) ≡ ltb (cond q 0 (suc (index_where p xs))) (suc (length xs))
      by true ih = sym (lt-ltb 0 (suc (length xs)) (omega arith))
      by false ih = rw (leb-suc-suc (suc (index_where p xs)) (length xs)) ih

  -- every element passes where none fails
  pub every-none-fails : (l : List A) → every p l ≡ not (any (λ x. not (p x)) l)
  unfolding every any
  every-none-fails [] = refl
  every-none-fails (x ∷ xs) = by (p x) (every-none-fails xs)
    where
      by : (q : Bool) → every p xs ≡ not (any (λ y. not (p y)) xs) → (q && every p xs) ≡ not (not q || any (λ y. not (p y)) xs)
      by true ih = ih
      by false ih = refl

  -- ---- what holds of every element, and of d past the end

  module _ (d : A) where
    pub every-each : (l : List A) → p d ≡ true → every p l ≡ true → (k : ℕ) → p (get_or l k d) ≡ true
    unfolding every
    every-each [] o e k = o
    every-each (x ∷ xs) o e zero = and_left (p x) (every p xs) e
    every-each (x ∷ xs) o e (suc k) = every-each xs o (and_right (p x) (every p xs) e) k

    pub each-every : (l : List A) → ((k : ℕ) → p (get_or l k d) ≡ true) → every p l ≡ true
    unfolding every
    each-every [] h = refl
    each-every (x ∷ xs) h = rw (h 0) (each-every xs (λ k. h (suc k)))

    -- it is kept where a new element has it too
    module _ (P : A → Type 0) (y : A) (new : P y) where
      pub set-each : (l : List A) → ((k : ℕ) → P (get_or l k d)) → (i k : ℕ) → P (get_or (set l i y) k d)
      set-each [] h i k = h k
      set-each (x ∷ xs) h zero zero = new
      set-each (x ∷ xs) h zero (suc k) = h (suc k)
      set-each (x ∷ xs) h (suc i) zero = h zero
      set-each (x ∷ xs) h (suc i) (suc k) = set-each xs (λ j. h (suc j)) i k

      pub replace_first-each : (l : List A) → ((k : ℕ) → P (get_or l k d)) → (k : ℕ) → P (get_or (replace_first p y l) k d)
      replace_first-each l h k = rw (replace_first-index y l) (set-each l h (index_where p l) k)

-- ---- two lists that agree

-- two lists agree where their elements do, and none passes that the longer has more
pub any-agree : {A B : Type 0} (p : A → Bool) (q : B → Bool) (d : A) (e : B) (xs : List A) (ys : List B) → length ys ≤ length xs
    → ((k : ℕ) → k < length ys → p (get_or xs k d) ≡ q (get_or ys k e)) → ((k : ℕ) → length ys ≤ k → k < length xs → p (get_or xs k d) ≡ false)
    → any p xs ≡ any q ys
unfolding any
any-agree p q d e [] [] n h g = refl
any-agree p q d e [] (y ∷ ys) n h g = absurd (omega arith)
any-agree p q d e (x ∷ xs) [] n h g =
    rw (g 0 (omega arith) (omega arith))
    (any-agree p q d e xs [] (omega arith) (λ k l. absurd (omega arith)) (λ k l m. g (suc k) (omega arith) (omega arith)))
any-agree p q d e (x ∷ xs) (y ∷ ys) n h g =
    ap₂ ◌||◌ (h 0 (omega arith))
    (any-agree p q d e xs ys (omega arith) (λ k l. h (suc k) (omega arith)) (λ k l m. g (suc k) (omega arith) (omega arith)))

-- ---- another element in the places of all that pass: element by element, and from the first place on

module _ {A : Type 0} (d : A) (k : A → Bool) where
  pub replace_all-map : (l : List A) → replace_all d k l ≡ map (λ x. cond (k x) d x) l
  unfolding replace_all
  replace_all-map [] = refl
  replace_all-map (x ∷ xs) = ap {B = List A} (λ r. cond (k x) d x ∷ r) (replace_all-map xs)

  pub replace_all-at : (l : List A) (i : ℕ) → get_or (replace_all d k l) i d ≡ cond (k (get_or l i d)) d (get_or l i d)
  unfolding replace_all
  replace_all-at [] i = by (k d)
    where
      by : (b : Bool) → d ≡ cond b d d
      by true = refl
      by false = refl
  replace_all-at (x ∷ xs) zero = refl
  replace_all-at (x ∷ xs) (suc i) = replace_all-at xs i

  pub replace_all-each : (P : A → Type 0) → P d → (l : List A) → ((i : ℕ) → P (get_or l i d)) → (i : ℕ) → P (get_or (replace_all d k l) i d)
  replace_all-each P new l h i = rw (replace_all-at l i) (cond_of P (k (get_or l i d)) d (get_or l i d) (λ _. new) (λ _. h i))

  -- up to the place i
  abbrev pub replaced_to : ℕ → List A → List A
  replaced_to i l = replace_all d k (take i l) ++ drop i l

  pub replaced-none : (l : List A) → l ≡ replaced_to 0 l
  unfolding replace_all
  replaced-none l = refl

  pub replaced-at : (l : List A) (i : ℕ) → get_or (replaced_to i l) i d ≡ get_or l i d
  unfolding replace_all
  replaced-at [] zero = refl
  replaced-at [] (suc i) = refl
  replaced-at (x ∷ xs) zero = refl
  replaced-at (x ∷ xs) (suc i) = replaced-at xs i

  -- one place further, where its element passes, and where it does not
  pub replaced-next : (l : List A) (i : ℕ) → k (get_or l i d) ≡ true → set (replaced_to i l) i d ≡ replaced_to (suc i) l
  unfolding replace_all
  replaced-next [] zero e = refl
  replaced-next [] (suc i) e = refl
  replaced-next (x ∷ xs) zero e = rw e
  replaced-next (x ∷ xs) (suc i) e = ap {B = List A} (λ r. cond (k x) d x ∷ r) (replaced-next xs i e)

  pub replaced-past : (l : List A) (i : ℕ) → k (get_or l i d) ≡ false → replaced_to i l ≡ replaced_to (suc i) l
  unfolding replace_all
  replaced-past [] zero e = refl
  replaced-past [] (suc i) e = refl
  replaced-past (x ∷ xs) zero e = rw e
  replaced-past (x ∷ xs) (suc i) e = ap {B = List A} (λ r. cond (k x) d x ∷ r) (replaced-past xs i e)

  pub replaced-all : (l : List A) (i : ℕ) → length l ≤ i → replaced_to i l ≡ replace_all d k l
  replaced-all l i h = rw (take_all i l h, drop_of_length-le l h) (append-nil (replace_all d k l))
