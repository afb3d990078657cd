-- Laws of big-endian numbers, each once over the width, but those of four bytes and of eight, which are std's two widths.
--
-- In order: one byte more, two numbers behind each other, four bytes written out, four bytes and eight as std reads them, the
-- bound; the length of what is written, four bytes and eight as std writes them; reading what was written and writing what was
-- read; a field of one byte; a number stored from its last byte.
-- Assumes nothing.
use mathlib.Core.Path.{◌≡◌, refl, sym, ap, ◌∙◌}
use mathlib.Core.List.{List, [], ◌∷◌, ◌++◌}
use Prim.Native.Nat.{ℕ, zero, suc, ◌+◌, ◌*◌, ◌/◌, ◌%◌, ◌^◌, ◌-◌, ◌≤◌, ◌<◌}
use native.Mathlib.Nat.{mod-eq_of_lt, add-zero, mul-one, mul-le-mul_right, pow-suc, pow-zero, not-suc-le-zero, div-lt_iff_lt-mul, div-div-eq-div-mul, suc-ne-zero}
use native.Mathlib.Numerals.{add-one}
use native.Mathlib.Omega.{arith}
use lib.Dec.{lit<}
use lib.ListN.{length, take, drop, get_or, set, length-append, length-drop}
use lib.Seq.{sets, take-suc, take_all, get_or-drop, length-take-le}
use Rattle.std.specs.Int.{w32, w64, from_be_bytes, to_be_bytes}
use Rattle.octets.specs.Lists.{part, Bytes}
use Rattle.octets.specs.BigEndian.{big_endian, big_endian_from, big_endian_bytes}
use Rattle.octets.proofs.Lists.{take-bytes, tail-bytes, part-add, length_part}
use Rattle.octets.proofs.Stores.{sets-snoc}

-- ---- reading

from-snoc : (a : ℕ) (l : List ℕ) (x : ℕ) → big_endian_from a (l ++ (x ∷ [])) ≡ big_endian_from a l * 256 + x
unfolding big_endian_from
from-snoc a [] x = refl
from-snoc a (y ∷ ys) x = from-snoc (a * 256 + y) ys x

pub be-snoc : (l : List ℕ) (x : ℕ) → big_endian (l ++ (x ∷ [])) ≡ big_endian l * 256 + x
be-snoc l x = from-snoc 0 l x

pub be-nil : big_endian [] ≡ 0
unfolding big_endian_from
be-nil = refl

-- one byte more of a part
pub be-more : (l : List ℕ) (at n : ℕ) → at + n < length l → big_endian (part l at (n + 1)) ≡ big_endian (part l at n) * 256 + get_or l (at + n) 0
be-more l at n h =
    let b : n < length (drop at l) = simp length-drop (omega arith) in
    rw (add-one, take-suc (drop at l) n 0 b, get_or-drop) (be-snoc (part l at n) (get_or l (at + n) 0))

-- a number in front counts as often as the width behind it says
from-split : (a : ℕ) (l : List ℕ) → big_endian_from a l ≡ a * 256 ^ length l + big_endian l
unfolding big_endian_from
from-split a [] = rw (pow-zero, mul-one, add-zero)
from-split a (b ∷ bs) =
    let p : 256 ^ suc (length bs) ≡ 256 ^ length bs * 256 = pow-suc 256 (length bs) in
    let h = from-split (a * 256 + b) bs in
    let z = from-split (0 * 256 + b) bs in
    h ∙ rw p (omega (arith, z))

from-append : (a : ℕ) (l r : List ℕ) → big_endian_from a (l ++ r) ≡ big_endian_from (big_endian_from a l) r
unfolding big_endian_from
from-append a [] r = refl
from-append a (x ∷ l) r = from-append (a * 256 + x) l r

pub be-append : (l r : List ℕ) → big_endian (l ++ r) ≡ big_endian l * 256 ^ length r + big_endian r
be-append l r = from-append 0 l r ∙ from-split (big_endian l) r

-- a part in two
pub be-split : (l : List ℕ) (at m n : ℕ) → at + (m + n) ≤ length l
    → big_endian (part l at (m + n)) ≡ big_endian (part l at m) * 256 ^ n + big_endian (part l (at + m) n)
be-split l at m n h =
    let e : length (part l (at + m) n) ≡ n = length_part l (at + m) n (omega arith) in
    ap big_endian (part-add l at m n) ∙ be-append (part l at m) (part l (at + m) n) ∙ rw e

-- four bytes, written out
pub be-four : (l : List ℕ) (at : ℕ) → at + 4 ≤ length l
    → big_endian (part l at 4) ≡ get_or l at 0 * 16777216 + get_or l (at + 1) 0 * 65536 + get_or l (at + 2) 0 * 256 + get_or l (at + 3) 0
be-four l at h =
    let z : get_or l (at + 0) 0 ≡ get_or l at 0 = ap (λ (k : ℕ). get_or l k 0) (add-zero at) in
    omega (arith, z, be-nil, be-more l at 0 (omega arith), be-more l at 1 (omega arith), be-more l at 2 (omega arith), be-more l at 3 (omega arith))

-- std's numbers of four bytes and of eight
pub be-from-four : (l : List ℕ) → length l ≡ 4 → from_be_bytes w32 l ≡ big_endian l
be-from-four l e =
    let all : big_endian (part l 0 4) ≡ big_endian l = ap big_endian (take_all 4 l (omega arith)) in
    omega (arith, all, be-four l 0 (omega arith))

pub be-from-eight : (l : List ℕ) → length l ≡ 8 → from_be_bytes w64 l ≡ big_endian l
be-from-eight l e =
    let all : big_endian (part l 0 8) ≡ big_endian l = ap big_endian (take_all 8 l (omega arith)) in
    omega (arith, all, be-split l 0 4 4 (omega arith), be-four l 0 (omega arith), be-four l 4 (omega arith))

pub be-bound : (l : List ℕ) → Bytes l → big_endian l < 256 ^ length l
unfolding big_endian_from
be-bound [] h = rw pow-zero (omega arith)
be-bound (x ∷ l) h =
    let p : 256 ^ suc (length l) ≡ 256 ^ length l * 256 = pow-suc 256 (length l) in
    let b : x ≤ 255 = omega (arith, h 0) in
    let z = from-split (0 * 256 + x) l in
    omega (arith, p, z, be-bound l (tail-bytes x l h), mul-le-mul_right (256 ^ length l) b)

-- ---- writing

pub length-be-bytes : (n x : ℕ) → length (big_endian_bytes n x) ≡ n
unfolding big_endian_bytes
length-be-bytes zero x = refl
length-be-bytes (suc n) x = simp (length-append, length-be-bytes n) (omega arith)

-- four bytes and eight bytes, as std writes them
pub be-to-four : (x : ℕ) → to_be_bytes w32 x ≡ big_endian_bytes 4 x
unfolding big_endian_bytes
be-to-four x = simp div-div-eq-div-mul

pub be-to-eight : (x : ℕ) → to_be_bytes w64 x ≡ big_endian_bytes 8 x
unfolding big_endian_bytes
be-to-eight x = simp div-div-eq-div-mul

-- of a number that eight bytes do not hold, the last 64 bits are written
pub be-low-eight : (x : ℕ) → to_be_bytes w64 (x % 2 ^ 64) ≡ big_endian_bytes 8 x
be-low-eight x =
    let b0 : x % 2 ^ 64 / 72057594037927936 % 256 ≡ x / 72057594037927936 % 256 = omega arith in
    let b1 : x % 2 ^ 64 / 281474976710656 % 256 ≡ x / 281474976710656 % 256 = omega arith in
    let b2 : x % 2 ^ 64 / 1099511627776 % 256 ≡ x / 1099511627776 % 256 = omega arith in
    let b3 : x % 2 ^ 64 / 4294967296 % 256 ≡ x / 4294967296 % 256 = omega arith in
    let b4 : x % 2 ^ 64 / 16777216 % 256 ≡ x / 16777216 % 256 = omega arith in
    let b5 : x % 2 ^ 64 / 65536 % 256 ≡ x / 65536 % 256 = omega arith in
    let b6 : x % 2 ^ 64 / 256 % 256 ≡ x / 256 % 256 = omega arith in
    let b7 : x % 2 ^ 64 % 256 ≡ x % 256 = omega arith in
    rw (b0, b1, b2, b3, b4, b5, b6, b7) (be-to-eight x)

-- reading what was written
pub be-bytes : (n x : ℕ) → x < 256 ^ n → big_endian (big_endian_bytes n x) ≡ x
unfolding big_endian_bytes
be-bytes zero x h = be-nil ∙ omega (arith, rw pow-zero at h)
be-bytes (suc n) x h =
    let q : x / 256 < 256 ^ n = (div-lt_iff_lt-mul (lit< tt)).1 (rw pow-suc at h) in
    be-snoc (big_endian_bytes n (x / 256)) (x % 256) ∙ rw (be-bytes n (x / 256) q) (omega arith)

-- writing what was read
pub bytes-be : (n : ℕ) (l : List ℕ) → length l ≡ n → Bytes l → big_endian_bytes n (big_endian l) ≡ l
unfolding big_endian_bytes
bytes-be zero [] e h = refl
bytes-be zero (x ∷ xs) e h = absurd (suc-ne-zero (length xs) e)
bytes-be (suc n) l e h =
    let lt : n < length l = omega arith in
    let s : l ≡ take n l ++ (get_or l n 0 ∷ []) = sym (take_all (suc n) l (omega arith)) ∙ take-suc l n 0 lt in
    let v : big_endian l ≡ big_endian (take n l) * 256 + get_or l n 0 = ap big_endian s ∙ be-snoc (take n l) (get_or l n 0) in
    let b : get_or l n 0 < 256 = h n in
    let hi : big_endian l / 256 ≡ big_endian (take n l) = omega arith in
    let lo : big_endian l % 256 ≡ get_or l n 0 = omega arith in
    let ih : big_endian_bytes n (big_endian (take n l)) ≡ take n l = bytes-be n (take n l) (length-take-le n l (omega arith)) (take-bytes n l h) in
    rw (hi, lo, ih) (sym s)

-- ---- a field of one byte

pub be-one : (x : ℕ) → big_endian (x ∷ []) ≡ x
unfolding big_endian_from
be-one x = omega arith

pub be-bytes-one : (x : ℕ) → x < 256 → big_endian_bytes 1 x ≡ x ∷ []
unfolding big_endian_bytes
be-bytes-one x h = rw (mod-eq_of_lt h)

-- ---- a number stored from its last byte

pub be-last : (b : List ℕ) (at i v : ℕ) → 0 < i
    → sets (set b (at + (i - 1)) (v % 256)) at (big_endian_bytes (i - 1) (v / 256)) ≡ sets b at (big_endian_bytes i v)
unfolding big_endian_bytes
be-last b at zero v h = absurd (not-suc-le-zero h)
be-last b at (suc i) v h =
    let e : suc i - 1 ≡ i = omega arith in
    let u : List ℕ = big_endian_bytes i (v / 256) in
    let s : sets (set b (at + length u) (v % 256)) at u ≡ sets b at (u ++ ((v % 256) ∷ [])) = sets-snoc b at u (v % 256) in
    rw e (rw length-be-bytes at s)

pub be-end : (b : List ℕ) (at i v : ℕ) → i ≡ 0 → sets b at (big_endian_bytes i v) ≡ b
unfolding big_endian_bytes
be-end b at i v e = rw e
