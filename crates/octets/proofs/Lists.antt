-- Laws of the definitions of specs/Lists.antt that a scan asks for, and of parts.
--
-- In order: `every`, one element more at the back; `same`, as an equation; lists of bytes; parts: their
-- length, parts of parts, of a longer list, a part that reaches the end, and parts by their end.
--
-- Not here: a run of stores (`Stores`), `index_of` and `split_on` (`Pieces`), `take`, `drop` and `get_or` alone (`lib.Seq`).
-- Assumes nothing.
use mathlib.Core.Path.{◌≡◌, refl, sym, ap, ap₂, ◌∙◌}
use mathlib.Core.Bool.{Bool, true, false, ◌&&◌, false≢true, and-eq-true_iff, and_assoc, and-true}
use mathlib.Core.List.{List, [], ◌∷◌, ◌++◌}
use Prim.Native.Nat.{ℕ, zero, suc, ◌+◌, ◌-◌, ◌≤◌, ◌<◌}
use native.Mathlib.Nat.{sub-zero, zero-sub, suc-sub-suc, not-suc-le-zero}
use native.Mathlib.Numerals.{add-one}
use native.Mathlib.Omega.{arith}
use borrow.Author.Tests.{eq-eqb, eqb-true}
use lib.Dec.{eqb, lit<}
use lib.ListN.{length, take, drop, get_or, replicate, length-drop}
use lib.Seq.{take-nil, take-suc, drop-cons, take_all, get_or-drop, drop-drop, take-take, length-take-le, take-add, take-append-le, drop-append-le}
use Rattle.octets.proofs.Booleans.{by-test, and_left, and_right}
use Rattle.octets.specs.Lists.{part, Bytes, every, is_zero, same}

-- ---- every element passes

module _ {A : Type 0} (p : A → Bool) where
  pub every_append : (xs ys : List A) → every p (xs ++ ys) ≡ (every p xs && every p ys)
  unfolding every
  every_append [] ys = refl
  every_append (x ∷ xs) ys = ap (λ (b : Bool). p x && b) (every_append xs ys) ∙ sym (and_assoc (p x) (every p xs) (every p ys))

  pub every-replicate : (n : ℕ) (x : A) → p x ≡ true → every p (replicate n x) ≡ true
  unfolding every
  every-replicate zero x e = refl
  every-replicate (suc n) x e = rw e (every-replicate n x e)

  pub every-none : (s : List A) → every p (take 0 s) ≡ true
  unfolding every
  every-none s = refl

  -- one element more at the back: how a scan that goes up accumulates
  pub every_more : (s : List A) (i : ℕ) (d : A) → i < length s → every p (take (i + 1) s) ≡ (every p (take i s) && p (get_or s i d))
  unfolding every
  every_more s i d h =
      rw (add-one, take-suc s i d h)
      (every_append (take i s) (get_or s i d ∷ []) ∙ ap (λ (b : Bool). every p (take i s) && b) (and-true (p (get_or s i d))))

  -- what holds of every element holds of each
  pub every-at : (s : List A) (d : A) → every p s ≡ true → (i : ℕ) → i < length s → p (get_or s i d) ≡ true
  unfolding every
  every-at [] d e i h = absurd (not-suc-le-zero h)
  every-at (x ∷ xs) d e zero h = ((and-eq-true_iff (p x) (every p xs)).0 e).0
  every-at (x ∷ xs) d e (suc i) h = every-at xs d ((and-eq-true_iff (p x) (every p xs)).0 e).1 i (omega arith)

-- elements that are all zero
pub every-zero : (l : List ℕ) → every is_zero l ≡ true → l ≡ replicate (length l) 0
unfolding every
every-zero [] e = refl
every-zero (x ∷ xs) e =
    let h = (and-eq-true_iff (is_zero x) (every is_zero xs)).0 e in
    ap₂ (λ (a : ℕ) (l : List ℕ). a ∷ l) (eqb-true x 0 h.0) (every-zero xs h.1)

-- ---- equality

pub same_refl : (l : List ℕ) → same l l ≡ true
unfolding same
same_refl [] = refl
same_refl (x ∷ xs) = rw (eq-eqb x x refl) (same_refl xs)

pub same-eq : (xs ys : List ℕ) → same xs ys ≡ true → xs ≡ ys
unfolding same
same-eq [] [] e = refl
same-eq [] (y ∷ ys) e = absurd (false≢true e)
same-eq (x ∷ xs) [] e = absurd (false≢true e)
same-eq (x ∷ xs) (y ∷ ys) e =
    let h = (and-eq-true_iff (eqb x y) (same xs ys)).0 e in
    let p = eqb-true x y h.0 in
    let q = same-eq xs ys h.1 in
    cc

-- two tests of equality that say the same
pub same-iff : (x y u v : List ℕ) → (x ≡ y → u ≡ v) → (u ≡ v → x ≡ y) → same x y ≡ same u v
same-iff x y u v f g = by (same x y) refl (same u v) refl
  where
    by : (p : Bool) → same x y ≡ p → (q : Bool) → same u v ≡ q → p ≡ q
    by true e true d = refl
    by false e false d = refl
    by true e false d = sym (ap (same u) (sym (f (same-eq x y e))) ∙ same_refl u) ∙ d
    by false e true d = sym e ∙ ap (same x) (sym (g (same-eq u v d))) ∙ same_refl x

-- lists of different lengths differ
pub same_length : (xs ys : List ℕ) → (length xs ≡ length ys → ⊥) → same xs ys ≡ false
same_length xs ys n = by-test (same xs ys) (λ e. absurd (n (ap length (same-eq xs ys e)))) (λ e. e)

pub same_empty : (xs ys : List ℕ) → length xs ≡ 0 → length ys ≡ 0 → same xs ys ≡ true
unfolding same
same_empty [] [] e f = refl
same_empty [] (y ∷ ys) e f = absurd (omega arith)
same_empty (x ∷ xs) ys e f = absurd (omega arith)

-- ---- lists of bytes

pub take-bytes : (n : ℕ) (l : List ℕ) → Bytes l → Bytes (take n l)
take-bytes zero l h k = lit< tt
take-bytes (suc n) [] h k = lit< tt
take-bytes (suc n) (x ∷ xs) h zero = h zero
take-bytes (suc n) (x ∷ xs) h (suc k) = take-bytes n xs (λ j. h (suc j)) k

pub drop-bytes : (n : ℕ) (l : List ℕ) → Bytes l → Bytes (drop n l)
drop-bytes n l h k = rw get_or-drop (h (n + k))

pub tail-bytes : (b : ℕ) (t : List ℕ) → Bytes (b ∷ t) → Bytes t
tail-bytes b t h k = h (suc k)

pub nil-bytes : Bytes []
nil-bytes k = lit< tt

-- each element passes a test that only bytes pass
pub class-bytes : (p : ℕ → Bool) → ((b : ℕ) → p b ≡ true → b < 256) → (l : List ℕ) → every p l ≡ true → Bytes l
unfolding every
class-bytes p small [] e k = lit< tt
class-bytes p small (x ∷ xs) e zero = small x (and_left (p x) (every p xs) e)
class-bytes p small (x ∷ xs) e (suc k) = class-bytes p small xs (and_right (p x) (every p xs) e) k

-- a list of one element again and again, bytes or not
pub each-replicate : {A : Type 0} (P : A → Type 0) (a : A) (n k : ℕ) → P a → P (get_or (replicate n a) k a)
each-replicate P a zero k p = p
each-replicate P a (suc n) zero p = p
each-replicate P a (suc n) (suc k) p = each-replicate P a n k p

pub zero-bytes : (n : ℕ) → Bytes (replicate n 0)
zero-bytes n k = each-replicate (λ (b : ℕ). b < 256) 0 n k (lit< tt)

-- ---- parts

module _ (l : List ℕ) (at n : ℕ) (fits : at + n ≤ length l) where
  pub length_part : length (part l at n) ≡ n
  length_part = length-take-le n (drop at l) (simp length-drop (omega arith))

pub drop-take : (l : List ℕ) (m k : ℕ) → drop k (take m l) ≡ take (m - k) (drop k l)
drop-take l m zero = rw sub-zero
drop-take l zero (suc k) = rw zero-sub
drop-take [] (suc m) (suc k) = sym (take-nil (suc m - suc k))
drop-take (x ∷ l) (suc m) (suc k) = rw suc-sub-suc (drop-take l m k)

-- a part of a part
pub part-part : (l : List ℕ) (at m k n : ℕ) → k + n ≤ m → part (part l at m) k n ≡ part l (at + k) n
part-part l at m k n h = rw (drop-take (drop at l) m k, take-take n (m - k) (drop k (drop at l)) (omega arith), drop-drop)

-- a part in two
pub part-add : (l : List ℕ) (at m n : ℕ) → part l at (m + n) ≡ part l at m ++ part l (at + m) n
part-add l at m n = take-add m n (drop at l) ∙ rw drop-drop

-- a part of what stands first
pub part-append : (l m : List ℕ) (at n : ℕ) → at + n ≤ length l → part (l ++ m) at n ≡ part l at n
part-append l m at n h = rw (drop-append-le at l m (omega arith)) (take-append-le n (drop at l) m (simp length-drop (omega arith)))

-- a part that reaches the end
pub part-rest : (s : List ℕ) (at : ℕ) → part s at (length s - at) ≡ drop at s
part-rest s at = take_all (length s - at) (drop at s) (simp length-drop (omega arith))

-- the first n elements of what stands from an index on
pub part-first : (s : List ℕ) (at n : ℕ) → take n (take (length s - at) (drop at s)) ≡ part s at n
part-first s at n = ap (take n) (part-rest s at)

-- a part from a start to an end
pub part-to : (l : List ℕ) (from to n : ℕ) → to ≡ from + n → part l from (to - from) ≡ part l from n
part-to l from to n e = let k : to - from ≡ n = omega arith in ap (part l from) k

-- a part of one element
pub part-one : (l : List ℕ) (at : ℕ) → at < length l → part l at 1 ≡ get_or l at 0 ∷ []
part-one l at h = rw (drop-cons l at 0 h)
