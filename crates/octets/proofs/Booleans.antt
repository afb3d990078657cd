-- Laws of Booleans and of tests that are not in the library.
--
-- In order: by the answer of a test; `◌&&◌`; `◌||◌`; one test implies another, also as a test that a finite rule computes;
-- a test that passes, as `T`; a number between two bounds.
--
-- Not here: the laws of the operations alone (`mathlib.Core.Bool`); a test and the fact that it stands for (`borrow.Author.Tests`).
-- Assumes nothing.
use Prim.Native.Nat.{ℕ, ◌≤◌, ◌<◌}
use mathlib.Core.Path.{◌≡◌, refl, sym, subst}
use mathlib.Core.Bool.{Bool, true, false, cond, not, ◌&&◌, ◌||◌, beq, false≢true, true≢false}
use mathlib.Core.Logic.{◌⊎◌, inl, inr}
use borrow.Author.Tests.{leb-true, lt-leb}
use lib.Dec.{leb, T}
pub use mathlib.Core.Bool.{and-false}

-- ---- by the answer of a test

pub by-test : {P : Type 0} (b : Bool) → (b ≡ true → P) → (b ≡ false → P) → P
by-test true f g = f refl
by-test false f g = g refl

module _ {A : Type 0} where
  pub cond_of : (P : A → Type 0) (b : Bool) (x y : A) → (b ≡ true → P x) → (b ≡ false → P y) → P (cond b x y)
  cond_of P true x y f g = f refl
  cond_of P false x y f g = g refl

-- ---- both pass

pub and_left : (a b : Bool) → (a && b) ≡ true → a ≡ true
and_left true b e = refl
and_left false b e = e

pub and_right : (a b : Bool) → (a && b) ≡ true → b ≡ true
and_right true b e = e
and_right false b e = absurd (false≢true e)

pub and-three : (a b c : Bool) → (a && b && c) ≡ true → (a ≡ true) × (b ≡ true) × (c ≡ true)
and-three true true c e = (refl, refl, e)
and-three true false c e = absurd (false≢true e)
and-three false b c e = absurd (false≢true e)

pub and-swap : (a b c : Bool) → (a && (b && c)) ≡ (b && (a && c))
and-swap true b c = refl
and-swap false b c = sym (and-false b)

-- ---- one passes

pub or_cases : (a b : Bool) → (a || b) ≡ true → (a ≡ true) ⊎ (b ≡ true)
or_cases true b e = inl refl
or_cases false b e = inr e

-- neither passes
pub or-none : (a b : Bool) → (a || b) ≡ false → (a ≡ false) × (b ≡ false)
or-none true b e = absurd (true≢false e)
or-none false b e = (refl, e)

-- ---- one implies the other

pub implied : (a b : Bool) → (a ≡ true → b ≡ true) → (not a || b) ≡ true
implied true b f = f refl
implied false b f = refl

pub implies : (a b : Bool) → (not a || b) ≡ true → a ≡ true → b ≡ true
implies true b h e = h
implies false b h e = absurd (false≢true e)

pub and-implied : (a b : Bool) → (a ≡ true → b ≡ true) → (a && b) ≡ a
and-implied true b f = f refl
and-implied false b f = refl

pub both_ways : (a b : Bool) → (a ≡ true → b ≡ true) → (b ≡ true → a ≡ true) → a ≡ b
both_ways true b f g = sym (f refl)
both_ways false true f g = g refl
both_ways false false f g = refl

-- ---- a test that passes

pub to-T : {b : Bool} → b ≡ true → T b
to-T {b} e = subst T (sym e) tt

pub of_T : (b : Bool) → T b → b ≡ true
of_T true t = refl
of_T false t = absurd t

pub of-T-equal : (a b : Bool) → T (beq a b) → a ≡ b
of-T-equal true true t = refl
of-T-equal true false t = absurd t
of-T-equal false true t = absurd t
of-T-equal false false t = refl

-- ---- a number and its upper bound

module _ (low high c : ℕ) where
  pub within-high : (leb low c && leb c high) ≡ true → c ≤ high
  within-high e = leb-true c high (and_right (leb low c) (leb c high) e)

  pub above : high < c → (leb low c && leb c high) ≡ false
  above h = rw (lt-leb c high h) (and-false (leb low c))
