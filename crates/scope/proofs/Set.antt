-- Laws of scope sets: what is in a set that was joined, met or compared, and sets that have the same names.
--
-- In order: one binary digit; `has` of the operations and of the two named sets; joining again; a set is the set of its
-- names, for numbers of any number of digits; the bound of `meet`; `is_within` as a fact of every name, and of the full set.
--
-- Not here: the laws of `bit_or` and `bit_and` that do not speak of `has` (`lib.Bits`); the names as texts (`Names`).
-- Assumes nothing.
use Prim.Native.Nat.{ℕ, zero, suc, ◌+◌, ◌*◌, ◌/◌, ◌%◌, ◌^◌, ◌<◌, min, max}
use mathlib.Core.Path.{◌≡◌, refl, sym, ◌∙◌, ap, ap₂}
use mathlib.Core.Bool.{Bool, true, false, ◌&&◌, ◌||◌, false≢true}
use native.Mathlib.Nat.{mod-lt, zero-div, div-one, pow-suc, lt_of_le_of_lt}
use native.Mathlib.Numerals.{one-add}
use native.Mathlib.Omega.{arith}
use borrow.Author.Tests.{eq-eqb, eqb-true}
use lib.Arith.{digits_mod, bin_ind}
use lib.Bits.{bit_and, bit_or, and_step, or_step, and_shr, or_shr, and_le_l}
use lib.Dec.{eqb, lit<}
use lib.ListN.{replicate}
use lib.Pow.{shr-shr}
use Rattle.octets.proofs.Booleans.{and_right, and-implied, of_T}
use Rattle.octets.proofs.Table.{at}
use Rattle.scope.specs.Set.{has, of_byte, empty_set, full_set, meet, is_within}
use Rattle.scope.specs.declared.Scope.{Scope}

-- ---- one binary digit

-- what holds of 0 and of 1
digit : (P : ℕ → Type 0) → P 0 → P 1 → (x : ℕ) → x < 2 → P x
digit P p q zero h = p
digit P p q (suc zero) h = q
digit P p q (suc (suc x)) h = absurd (omega arith)

-- the same of two digits
digits : (P : ℕ → ℕ → Type 0) → P 0 0 → P 0 1 → P 1 0 → P 1 1 → (x y : ℕ) → x < 2 → y < 2 → P x y
digits P p q r s x y hx hy = digit (λ (m : ℕ). P m y) (digit (P 0) p q y hy) (digit (P 1) r s y hy) x hx

or-digit : (x y : ℕ) → x < 2 → y < 2 → eqb (max x y) 1 ≡ (eqb x 1 || eqb y 1)
or-digit = digits (λ (x y : ℕ). eqb (max x y) 1 ≡ (eqb x 1 || eqb y 1)) refl refl refl refl

and-digit : (x y : ℕ) → x < 2 → y < 2 → eqb (min x y) 1 ≡ (eqb x 1 && eqb y 1)
and-digit = digits (λ (x y : ℕ). eqb (min x y) 1 ≡ (eqb x 1 && eqb y 1)) refl refl refl refl

same-digit : (x y : ℕ) → x < 2 → y < 2 → eqb x 1 ≡ eqb y 1 → x ≡ y
same-digit =
    digits (λ (x y : ℕ). eqb x 1 ≡ eqb y 1 → x ≡ y)
    (λ e. refl) (λ e. absurd (false≢true e)) (λ e. absurd (false≢true (sym e))) (λ e. refl)

-- ---- what the operations do to each name

module _ (op f : ℕ → ℕ → ℕ) (g : Bool → Bool → Bool)
    (step : (a b : ℕ) → op a b ≡ op (a / 2) (b / 2) * 2 + f (a % 2) (b % 2))
    (shr : (a b k : ℕ) → op a b / 2 ^ k ≡ op (a / 2 ^ k) (b / 2 ^ k))
    (below : (x y : ℕ) → x < 2 → y < 2 → f x y < 2)
    (value : (x y : ℕ) → x < 2 → y < 2 → eqb (f x y) 1 ≡ g (eqb x 1) (eqb y 1)) where
  op-low : (a b : ℕ) → op a b % 2 ≡ f (a % 2) (b % 2)
  op-low a b = rw (step a b) (digits_mod (op (a / 2) (b / 2)) (below (a % 2) (b % 2) (mod-lt a (lit< tt)) (mod-lt b (lit< tt))))

  has-op : (a b k : ℕ) → has (op a b) k ≡ g (has a k) (has b k)
  has-op a b k =
      rw (shr a b k, op-low (a / 2 ^ k) (b / 2 ^ k))
      (value (a / 2 ^ k % 2) (b / 2 ^ k % 2) (mod-lt (a / 2 ^ k) (lit< tt)) (mod-lt (b / 2 ^ k) (lit< tt)))

pub has_join : (a b k : ℕ) → has (bit_or a b) k ≡ (has a k || has b k)
has_join = has-op bit_or max ◌||◌ or_step or_shr (λ x y hx hy. omega arith) or-digit

pub has_meet : (a b k : ℕ) → has (bit_and a b) k ≡ (has a k && has b k)
has_meet = has-op bit_and min ◌&&◌ and_step and_shr (λ x y hx hy. omega arith) and-digit

-- the empty set and the full one
pub has-empty : (k : ℕ) → has empty_set.bits k ≡ false
has-empty k = rw zero-div

pub has-full : (k : ℕ) → k < 8 → has full_set.bits k ≡ true
has-full k h = of_T (has 255 k) (at {A = ℕ} (λ j _. has 255 j) 0 (replicate 8 0) tt k h)

-- ---- joining again

or-half : (a b : ℕ) → bit_or a b / 2 ≡ bit_or (a / 2) (b / 2)
or-half a b = or_shr a b 1

or-low : (a b : ℕ) → bit_or a b % 2 ≡ max (a % 2) (b % 2)
or-low = op-low bit_or max ◌||◌ or_step or_shr (λ x y hx hy. omega arith) or-digit

module _ (a b c : ℕ) where
  or_left : bit_or (bit_or a b) c ≡ bit_or (bit_or (a / 2) (b / 2)) (c / 2) * 2 + max (max (a % 2) (b % 2)) (c % 2)
  or_left = or_step (bit_or a b) c ∙ ap₂ (λ (x y : ℕ). bit_or x (c / 2) * 2 + max y (c % 2)) (or-half a b) (or-low a b)

  or_right : bit_or a (bit_or b c) ≡ bit_or (a / 2) (bit_or (b / 2) (c / 2)) * 2 + max (a % 2) (max (b % 2) (c % 2))
  or_right = or_step a (bit_or b c) ∙ ap₂ (λ (x y : ℕ). bit_or (a / 2) x * 2 + max (a % 2) y) (or-half b c) (or-low b c)

pub or_assoc : (a b c : ℕ) → bit_or (bit_or a b) c ≡ bit_or a (bit_or b c)
or_assoc =
    bin_ind (λ (a : ℕ). (b c : ℕ) → bit_or (bit_or a b) c ≡ bit_or a (bit_or b c)) (λ b c. refl)
    (λ a ih b c. or_left a b c ∙ ap₂ (λ (x y : ℕ). x * 2 + y) (ih (b / 2) (c / 2)) (omega arith) ∙ sym (or_right a b c))

-- ---- a set is the set of its names

has-lowest : (a : ℕ) → has a 0 ≡ eqb (a % 2) 1
has-lowest a = rw (div-one a)

has_rest : (a k : ℕ) → has (a / 2) k ≡ has a (suc k)
has_rest a k = rw (shr-shr a 1 k, one-add)

pub same-members : (n a b : ℕ) → a < 2 ^ n → b < 2 ^ n → ((k : ℕ) → k < n → has a k ≡ has b k) → a ≡ b
same-members zero a b ha hb h = omega arith
same-members (suc n) a b ha hb h =
    let p : 2 ^ suc n ≡ 2 ^ n * 2 = pow-suc 2 n in
    let r = same-members n (a / 2) (b / 2) (omega arith) (omega arith) (λ k l. has_rest a k ∙ h (suc k) (omega arith) ∙ sym (has_rest b k)) in
    let d = same-digit (a % 2) (b % 2) (mod-lt a (lit< tt)) (mod-lt b (lit< tt)) (sym (has-lowest a) ∙ h 0 (omega arith) ∙ has-lowest b) in
    omega arith

-- ---- the bound

meet-bound : (a b : Scope) → a.bits < 256 → (meet a b).bits < 256
meet-bound a b ha = lt_of_le_of_lt (and_le_l a.bits b.bits) ha

-- ---- a set within another

pub within_has : (a b : Scope) (k : ℕ) → is_within a b ≡ true → has a.bits k ≡ true → has b.bits k ≡ true
within_has a b k w h =
    let e : bit_and a.bits b.bits ≡ a.bits = eqb-true (bit_and a.bits b.bits) a.bits w in
    and_right (has a.bits k) (has b.bits k) (sym (has_meet a.bits b.bits k) ∙ ap (λ (n : ℕ). has n k) e ∙ h)

-- and the other way round, for the eight names
pub has_within : (a b : Scope) → a.bits < 256 → ((k : ℕ) → k < 8 → has a.bits k ≡ true → has b.bits k ≡ true) → is_within a b ≡ true
has_within a b ha h =
    let x = a.bits in
    let y = b.bits in
    eq-eqb (bit_and x y) x
    (same-members 8 (bit_and x y) x (meet-bound a b ha) ha (λ k l. has_meet x y k ∙ and-implied (has x k) (has y k) (h k l)))

-- every set is within the full one
pub meet-full : (n : ℕ) → n < 256 → meet (of_byte n) full_set ≡ of_byte n
meet-full n h = ap of_byte (eqb-true (bit_and n 255) n (has_within (of_byte n) full_set h (λ k l e. has-full k l)))
