-- Laws of counts (`count`, `any`) and of what a change of a list does to every count at once. Generic over the element type.
--
-- In order: a test as a number; a count by its test; a count by its list (from an index on, `++`, a member, `keep`), and what `keep`
-- keeps; `any` as a count; the first that passes, where at most one does; the list with another element in the place of the first, of
-- all, or of each, that pass; all these through a map.
--
-- Not here: the place of the first that passes, and what holds of each element (`Searches`).
-- Assumes nothing.
use mathlib.Core.Path.{◌≡◌, refl, sym, ap, ap₂, ◌∙◌, fun_ext, subst}
use mathlib.Core.Bool.{Bool, true, false, not, cond, ◌&&◌, ◌||◌, false≢true, and-true, and-false}
use mathlib.Core.Logic.{◌⊎◌, inl, inr}
use mathlib.Core.List.Memᴰ
use mathlib.Core.List.{List, [], ◌∷◌, ◌++◌, map, Memᴰ}
use Prim.Native.Nat.{ℕ, zero, suc, ◌+◌, ◌≤◌, ◌<◌}
use native.Mathlib.Numerals.{add-one}
use native.Mathlib.Omega.{arith}
use lib.ListN.{length, drop, get_or, replicate, drop_of_length-le}
use lib.Seq.{drop-cons}
use Rattle.octets.proofs.Booleans.{cond_of}
use Rattle.octets.specs.Search.{bit, count, any, first_or, replace_first, replace_all, keep}

-- ---- a test as a number

pub bit_le : (a : Bool) → bit a ≤ 1
bit_le true = omega arith
bit_le false = omega arith

pub bit_and : (a b : Bool) → bit (a && b) ≤ bit a
bit_and true b = bit_le b
bit_and false b = omega arith

pub bit_not : (a : Bool) → bit a + bit (not a) ≡ 1
bit_not true = omega arith
bit_not false = omega arith

pub bit-none : (a : Bool) → bit a ≤ 0 → a ≡ false
bit-none true h = absurd (omega arith)
bit-none false h = refl

pub bit-some : (a : Bool) → 1 ≤ bit a → a ≡ true
bit-some true h = refl
bit-some false h = absurd (omega arith)

pub bit-implies : (a b : Bool) → (a ≡ true → b ≡ true) → bit a ≤ bit b
bit-implies true b f = rw (f refl) (omega arith)
bit-implies false b f = omega arith

module _ {A : Type 0} where
  -- ---- a count by its test

  pub count-ext : (p q : A → Bool) (l : List A) → ((x : A) → p x ≡ q x) → count p l ≡ count q l
  count-ext p q l h = ap (λ (r : A → Bool). count r l) (fun_ext h)

  pub count-le : (p q : A → Bool) (l : List A) → ((x : A) → bit (p x) ≤ bit (q x)) → count p l ≤ count q l
  unfolding count
  count-le p q [] h = omega arith
  count-le p q (x ∷ xs) h = omega (arith, count-le p q xs h, h x)

  -- two tests of which no element passes both
  pub count-apart : (p q r : A → Bool) (l : List A) → ((x : A) → bit (p x) + bit (q x) ≤ bit (r x)) → count p l + count q l ≤ count r l
  unfolding count
  count-apart p q r [] h = omega arith
  count-apart p q r (x ∷ xs) h = omega (arith, h x, count-apart p q r xs h)

  pub count-and : (p q : A → Bool) (l : List A) → count (λ x. p x && q x) l ≤ count p l
  count-and p q l = count-le (λ x. p x && q x) p l (λ x. bit_and (p x) (q x))

  pub count-not : (p : A → Bool) (l : List A) → count p l + count (λ x. not (p x)) l ≡ length l
  unfolding count
  count-not p [] = omega arith
  count-not p (x ∷ xs) = omega (arith, count-not p xs, bit_not (p x))

  -- ---- a count by its list

  -- from index i on, one element further
  pub count_next : (p : A → Bool) (d : A) (l : List A) (i : ℕ) → i < length l → count p (drop i l) ≡ bit (p (get_or l i d)) + count p (drop (i + 1) l)
  unfolding count
  count_next p d l i h = rw (add-one, drop-cons l i d h)

  pub count-end : (p : A → Bool) (l : List A) (i : ℕ) → length l ≤ i → count p (drop i l) ≡ 0
  unfolding count
  count-end p l i h = rw (drop_of_length-le l h)

  pub count-append : (p : A → Bool) (l m : List A) → count p (l ++ m) ≡ count p l + count p m
  unfolding count
  count-append p [] m = omega arith
  count-append p (x ∷ xs) m = omega (arith, count-append p xs m)

  pub count-replicate : (p : A → Bool) (x : A) (n : ℕ) → p x ≡ false → count p (replicate n x) ≡ 0
  unfolding count
  count-replicate p x zero e = refl
  count-replicate p x (suc n) e = omega (arith, ap bit e, count-replicate p x n e)

  pub count-member : (p : A → Bool) (e : A) {l : List A} → Memᴰ e l → p e ≡ true → 1 ≤ count p l
  unfolding count
  count-member p e (Memᴰ.head {x} {xs} q) h = omega (arith, ap bit (ap p (sym q) ∙ h))
  count-member p e (Memᴰ.tail {x} {xs} m) h = omega (arith, count-member p e m h)

  pub count-keep : (p k : A → Bool) (l : List A) → count p (keep k l) ≡ count (λ x. p x && k x) l
  unfolding count keep
  count-keep p k [] = refl
  count-keep p k (x ∷ xs) = by (k x) (p x) refl (count-keep p k xs)
    where
      by : (a b : Bool) → p x ≡ b → count p (keep k xs) ≡ count (λ y. p y && k y) xs
          → count p (cond a (x ∷ keep k xs) (keep k xs)) ≡ bit (b && a) + count (λ y. p y && k y) xs
      by true true e h = omega (arith, ap bit e)
      by true false e h = omega (arith, ap bit e)
      by false true e h = omega arith
      by false false e h = omega arith

  pub keep_all : (l : List A) → keep (λ x. true) l ≡ l
  unfolding keep
  keep_all [] = refl
  keep_all (x ∷ xs) = ap {B = List A} (λ r. x ∷ r) (keep_all xs)

  pub keep-in : (k : A → Bool) (x : A) (l : List A) → Memᴰ x l → k x ≡ true → Memᴰ x (keep k l)
  unfolding keep
  keep-in k x [] m e = absurd (Memᴰ.not-nil m)
  keep-in k x (y ∷ l) m e = by (k y) refl (Memᴰ.cases_cons m) (λ r. keep-in k x l r e)
    where
      by : (b : Bool) → k y ≡ b → (x ≡ y) ⊎ Memᴰ x l → (Memᴰ x l → Memᴰ x (keep k l)) → Memᴰ x (cond b (y ∷ keep k l) (keep k l))
      by true q (inl p) ih = Memᴰ.head p
      by true q (inr r) ih = Memᴰ.tail (ih r)
      by false q (inl p) ih = absurd (false≢true (sym q ∙ ap k (sym p) ∙ e))
      by false q (inr r) ih = ih r

  pub keep_out : (k : A → Bool) (x : A) (l : List A) → Memᴰ x (keep k l) → Memᴰ x l × (k x ≡ true)
  unfolding keep
  keep_out k x [] m = absurd (Memᴰ.not-nil m)
  keep_out k x (y ∷ l) m = by (k y) refl m (keep_out k x l)
    where
      first : k y ≡ true → (Memᴰ x (keep k l) → Memᴰ x l × (k x ≡ true)) → (x ≡ y) ⊎ Memᴰ x (keep k l)
          → Memᴰ x (y ∷ l) × (k x ≡ true)
      first q ih (inl p) = (Memᴰ.head p, ap k p ∙ q)
      first q ih (inr r) = (Memᴰ.tail (ih r).0, (ih r).1)

      by : (b : Bool) → k y ≡ b → Memᴰ x (cond b (y ∷ keep k l) (keep k l)) → (Memᴰ x (keep k l) → Memᴰ x l × (k x ≡ true))
          → Memᴰ x (y ∷ l) × (k x ≡ true)
      by true q m ih = first q ih (Memᴰ.cases_cons m)
      by false q m ih = (Memᴰ.tail (ih m).0, (ih m).1)

  -- ---- some pass

  pub any-count : (p : A → Bool) (b : Bool) (l : List A) → count p l ≡ bit b → any p l ≡ b
  unfolding count any
  any-count p true [] h = absurd (omega arith)
  any-count p false [] h = refl
  any-count p b (x ∷ xs) h = by (p x) b h (any-count p b xs)
    where
      by : (a b : Bool) → bit a + count p xs ≡ bit b → (count p xs ≡ bit b → any p xs ≡ b) → (a || any p xs) ≡ b
      by true true h ih = refl
      by true false h ih = absurd (omega arith)
      by false b h ih = ih (omega arith)

  pub any_some : (p : A → Bool) (l : List A) → 1 ≤ count p l → any p l ≡ true
  unfolding count any
  any_some p [] h = absurd (omega arith)
  any_some p (x ∷ xs) h = by (p x) h (any_some p xs)
    where
      by : (a : Bool) → 1 ≤ bit a + count p xs → (1 ≤ count p xs → any p xs ≡ true) → (a || any p xs) ≡ true
      by true h ih = refl
      by false h ih = ih (omega arith)

  -- ---- the first that passes

  pub first_or-passes : (k : A → Bool) (d : A) (l : List A) → any k l ≡ true → k (first_or d k l) ≡ true
  unfolding any first_or
  first_or-passes k d [] h = absurd (false≢true h)
  first_or-passes k d (x ∷ xs) h = by (k x) refl h (first_or-passes k d xs)
    where
      by : (a : Bool) → k x ≡ a → (a || any k xs) ≡ true → (any k xs ≡ true → k (first_or d k xs) ≡ true) → k (cond a x (first_or d k xs)) ≡ true
      by true e h ih = e
      by false e h ih = ih h

  -- where at most one passes k, it decides every count of those that pass k
  pub first_or-none : (k : A → Bool) (d : A) (l : List A) → any k l ≡ false → first_or d k l ≡ d
  unfolding any first_or
  first_or-none k d [] e = refl
  first_or-none k d (x ∷ xs) e = by (k x) e (first_or-none k d xs)
    where
      by : (a : Bool) → (a || any k xs) ≡ false → (any k xs ≡ false → first_or d k xs ≡ d) → cond a x (first_or d k xs) ≡ d
      by true e ih = absurd (false≢true (sym e))
      by false e ih = ih e

  -- to put behind a list what is found where nothing passes changes nothing
  pub first_or-behind : (k : A → Bool) (d : A) (l : List A) (n : ℕ) → first_or d k (l ++ replicate n d) ≡ first_or d k l
  unfolding first_or
  first_or-behind k d [] zero = refl
  first_or-behind k d [] (suc n) = cond_of (λ x. x ≡ d) (k d) d _ (λ e. refl) (λ e. first_or-behind k d [] n)
  first_or-behind k d (x ∷ xs) n = ap (λ (y : A). cond (k x) x y) (first_or-behind k d xs n)

  pub count-first_or : (k g : A → Bool) (d : A) (l : List A) → count k l ≤ 1 → g d ≡ false → count (λ x. k x && g x) l ≡ bit (g (first_or d k l))
  unfolding count first_or
  count-first_or k g d [] h e = rw e
  count-first_or k g d (x ∷ xs) h e = by (k x) h (count-first_or k g d xs)
    where
      by : (a : Bool) → bit a + count k xs ≤ 1 → (count k xs ≤ 1 → g d ≡ false → count (λ x. k x && g x) xs ≡ bit (g (first_or d k xs)))
          → bit (a && g x) + count (λ x. k x && g x) xs ≡ bit (g (cond a x (first_or d k xs)))
      by true h ih = omega (arith, count-and k g xs)
      by false h ih = omega (arith, ih (omega arith) e)

  -- ---- another element in the place of the first that passes

  pub length-replace_first : (k : A → Bool) (y : A) (l : List A) → length (replace_first k y l) ≡ length l
  unfolding replace_first
  length-replace_first k y [] = refl
  length-replace_first k y (x ∷ xs) = by (k x) (length-replace_first k y xs)
    where
      by : (a : Bool) → length (replace_first k y xs) ≡ length xs → length (cond a (y ∷ xs) (x ∷ replace_first k y xs)) ≡ suc (length xs)
      by true e = refl
      by false e = ap suc e

  -- the change in every count: the element that was there goes, y comes
  pub count-replace_first : (p k : A → Bool) (y d : A) (l : List A)
      → count p (replace_first k y l) + bit (any k l && p (first_or d k l)) ≡ count p l + bit (any k l && p y)
  unfolding count replace_first any first_or
  count-replace_first p k y d [] = omega arith
  count-replace_first p k y d (x ∷ xs) = by (k x) (count-replace_first p k y d xs)
    where
      by : (a : Bool) → count p (replace_first k y xs) + bit (any k xs && p (first_or d k xs)) ≡ count p xs + bit (any k xs && p y)
          → count p (cond a (y ∷ xs) (x ∷ replace_first k y xs)) + bit ((a || any k xs) && p (cond a x (first_or d k xs)))
          ≡ bit (p x) + count p xs + bit ((a || any k xs) && p y)
      by true e = omega arith
      by false e = omega arith

  -- ---- another element in the places of all that pass

  pub length-replace_all : (d : A) (k : A → Bool) (l : List A) → length (replace_all d k l) ≡ length l
  unfolding replace_all
  length-replace_all d k [] = refl
  length-replace_all d k (x ∷ xs) = ap suc (length-replace_all d k xs)

  -- the count of a test that the new element fails
  pub count-replace_all : (p k : A → Bool) (d : A) (l : List A) → p d ≡ false → count p (replace_all d k l) ≡ count (λ x. p x && not (k x)) l
  unfolding count replace_all
  count-replace_all p k d [] e = refl
  count-replace_all p k d (x ∷ xs) e = ap₂ ◌+◌ (by (k x)) (count-replace_all p k d xs e)
    where
      by : (a : Bool) → bit (p (cond a d x)) ≡ bit (p x && not a)
      by true = ap bit (e ∙ sym (and-false (p x)))
      by false = ap bit (sym (and-true (p x)))

  -- ---- another element in the place of each that passes

  map-none : (f : A → A) (k : A → Bool) (l : List A) → count k l ≡ 0 → map (λ x. cond (k x) (f x) x) l ≡ l
  unfolding count
  map-none f k [] h = refl
  map-none f k (x ∷ xs) h = by (k x) h (map-none f k xs)
    where
      by : (a : Bool) → bit a + count k xs ≡ 0 → (count k xs ≡ 0 → map (λ y. cond (k y) (f y) y) xs ≡ xs)
          → cond a (f x) x ∷ map (λ y. cond (k y) (f y) y) xs ≡ x ∷ xs
      by true h ih = absurd (omega arith)
      by false h ih = ap {B = List A} (λ r. x ∷ r) (ih (omega arith))

  -- where at most one passes, the first is each
  pub replace_first-map : (f : A → A) (k : A → Bool) (d : A) (l : List A) → count k l ≤ 1
      → replace_first k (f (first_or d k l)) l ≡ map (λ x. cond (k x) (f x) x) l
  unfolding count replace_first first_or
  replace_first-map f k d [] h = refl
  replace_first-map f k d (x ∷ xs) h = by (k x) h (replace_first-map f k d xs)
    where
      by : (a : Bool) → bit a + count k xs ≤ 1
          → (count k xs ≤ 1 → replace_first k (f (first_or d k xs)) xs ≡ map (λ y. cond (k y) (f y) y) xs)
          → let y = f (cond a x (first_or d k xs)) in
          cond a (y ∷ xs) (x ∷ replace_first k y xs) ≡ cond a (f x) x ∷ map (λ y. cond (k y) (f y) y) xs
      by true h ih = ap {B = List A} (λ r. f x ∷ r) (sym (map-none f k xs (omega arith)))
      by false h ih = ap {B = List A} (λ r. x ∷ r) (ih (omega arith))

-- ---- through a map

module _ {A B : Type 0} (f : A → B) where
  pub count_map : (p : B → Bool) (l : List A) → count p (map f l) ≡ count (λ x. p (f x)) l
  unfolding count
  count_map p [] = refl
  count_map p (x ∷ xs) = ap (λ (n : ℕ). bit (p (f x)) + n) (count_map p xs)

  pub any-map : (p : B → Bool) (l : List A) → any p (map f l) ≡ any (λ x. p (f x)) l
  unfolding any
  any-map p [] = refl
  any-map p (x ∷ xs) = ap (λ (b : Bool). p (f x) || b) (any-map p xs)

  pub keep-map : (k : B → Bool) (l : List A) → keep k (map f l) ≡ map f (keep (λ x. k (f x)) l)
  unfolding keep
  keep-map k [] = refl
  keep-map k (x ∷ xs) = by (k (f x)) (keep-map k xs)
    where
      by : (a : Bool) → keep k (map f xs) ≡ map f (keep (λ y. k (f y)) xs)
          → cond a (f x ∷ keep k (map f xs)) (keep k (map f xs)) ≡ map f (cond a (x ∷ keep (λ y. k (f y)) xs) (keep (λ y. k (f y)) xs))
      by true e = ap {B = List B} (λ r. f x ∷ r) e
      by false e = e

  -- what the two defaults agree on, the two that are found agree on
  pub first_or-map : {C : Type 0} (g : B → C) (d : B) (e : A) → g d ≡ g (f e) → (k : B → Bool) (l : List A)
      → g (first_or d k (map f l)) ≡ g (f (first_or e (λ x. k (f x)) l))
  unfolding first_or
  first_or-map g d e h k [] = h
  first_or-map g d e h k (x ∷ xs) = by (k (f x)) (first_or-map g d e h k xs)
    where
      by : (a : Bool) → g (first_or d k (map f xs)) ≡ g (f (first_or e (λ y. k (f y)) xs))
          → g (cond a (f x) (first_or d k (map f xs))) ≡ g (f (cond a x (first_or e (λ y. k (f y)) xs)))
      by true ih = refl
      by false ih = ih

  -- what holds of each element's image holds of each element of the images
  pub member-map : (P : B → Type 0) (l : List A) → ((x : A) → Memᴰ x l → P (f x)) → (y : B) → Memᴰ y (map f l) → P y
  member-map P [] h y m = absurd (Memᴰ.not-nil m)
  member-map P (x ∷ xs) h y m = by (Memᴰ.cases_cons m) (λ i. member-map P xs (λ z j. h z (Memᴰ.tail j)) y i)
    where
      by : (y ≡ f x) ⊎ Memᴰ y (map f xs) → (Memᴰ y (map f xs) → P y) → P y
      by (inl e) k = subst P (sym e) (h x (Memᴰ.head refl))
      by (inr i) k = k i
