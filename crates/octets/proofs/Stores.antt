-- Laws of runs of stores, `sets l i v`: `v` stored element by element from index i on.
--
-- In order: two runs, one behind the other; a run over the whole list; a copy, one byte further; a run and a part of the list,
-- which stands before, behind or at the run; what stands after a write to a part.
--
-- Not here: `length-sets`, `sets-eq` (`lib.Seq`); a number stored from its last byte (`BigEndian`).
-- Assumes nothing.
use mathlib.Core.Path.{◌≡◌, refl, sym, ap, ◌∙◌}
use mathlib.Core.List.{List, [], ◌∷◌, ◌++◌, append_assoc, append-nil}
use Prim.Native.Nat.{ℕ, suc, ◌+◌, ◌-◌, ◌≤◌, ◌<◌}
use native.Mathlib.Nat.{zero-add, add-zero, add-suc, suc-add}
use native.Mathlib.Numerals.{add-one}
use native.Mathlib.Omega.{arith}
use lib.ListN.{length, take, drop, get_or, set, drop_of_length-le}
use lib.Seq.{sets, sets-eq, drop-cons, drop-drop, set_comm, drop_at, take-append_seam, drop-set-add, drop-set-lt, take-set-le, length-take-le}
use borrow.Rule.Slice.PartMut.{put_mid}
use Rattle.octets.specs.Lists.{part}

-- ---- two runs, one behind the other

pub sets-append : (l : List ℕ) (i : ℕ) (u v : List ℕ) → sets (sets l i u) (i + length u) v ≡ sets l i (u ++ v)
sets-append l i [] v = rw add-zero
sets-append l i (x ∷ u) v = rw (add-suc, ← suc-add) (sets-append (set l i x) (suc i) u v)

-- the last store of a run may come first
pub sets-snoc : (l : List ℕ) (i : ℕ) (u : List ℕ) (y : ℕ) → sets (set l (i + length u) y) i u ≡ sets l i (u ++ (y ∷ []))
sets-snoc l i [] y = rw add-zero
sets-snoc l i (x ∷ u) y =
    rw (add-suc, ← suc-add, set_comm l (suc i + length u) i y x (λ e. absurd (omega arith))) (sets-snoc (set l i x) (suc i) u y)

-- a run over the whole list
pub sets-all : (l v : List ℕ) → length v ≡ length l → sets l 0 v ≡ v
sets-all l v e = sets-eq v l 0 (omega arith) ∙ rw (zero-add (length v), drop_of_length-le l {i = length v} (omega arith)) (append-nil v)

-- ---- one byte further: what is left to store is one less

pub copy-next : (b : List ℕ) (at : ℕ) (s : List ℕ) (i : ℕ) → i < length s
    → sets (set b (at + i) (get_or s i 0)) (at + (i + 1)) (drop (i + 1) s) ≡ sets b (at + i) (drop i s)
copy-next b at s i h = rw (add-one, add-suc, drop-cons s i 0 h)

pub copy-end : (b : List ℕ) (k : ℕ) (s : List ℕ) (i : ℕ) → length s ≤ i → sets b k (drop i s) ≡ b
copy-end b k s i h = rw (drop_of_length-le s h)

-- ---- a run and a part

module _ (l : List ℕ) (at n : ℕ) where
  part-set-after : (i a : ℕ) → at + n ≤ i → part (set l i a) at n ≡ part l at n
  part-set-after i a h =
      let e : i ≡ at + (i - at) = omega arith in
      let s : drop at (set l (at + (i - at)) a) ≡ set (drop at l) (i - at) a = drop-set-add at l (i - at) a in
      ap (λ (k : ℕ). take n (drop at (set l k a))) e ∙ ap (λ (r : List ℕ). take n r) s ∙ take-set-le n (drop at l) (i - at) a (omega arith)

  part-set-before : (i a : ℕ) → i < at → part (set l i a) at n ≡ part l at n
  part-set-before i a h = rw drop-set-lt

-- the run stands behind the part
pub part-sets-after : (l : List ℕ) (at n i : ℕ) (v : List ℕ) → at + n ≤ i → part (sets l i v) at n ≡ part l at n
part-sets-after l at n i [] h = refl
part-sets-after l at n i (a ∷ v) h = part-sets-after (set l i a) at n (suc i) v (omega arith) ∙ part-set-after l at n i a h

-- the run stands before the part
pub part-sets-before : (l : List ℕ) (at n i : ℕ) (v : List ℕ) → i + length v ≤ at → part (sets l i v) at n ≡ part l at n
part-sets-before l at n i [] h = refl
part-sets-before l at n i (a ∷ v) h = part-sets-before (set l i a) at n (suc i) v (omega arith) ∙ part-set-before l at n i a (omega arith)

-- the run is the part
pub part-sets-same : (l : List ℕ) (i : ℕ) (v : List ℕ) → i + length v ≤ length l → part (sets l i v) i (length v) ≡ v
part-sets-same l i v h =
    rw (sets-eq v l i h, append_assoc, drop_at (take i l) (v ++ drop (i + length v) l) i (length-take-le i l (omega arith)), take-append_seam)

-- ---- a part of a slice that was written as one

-- what stands after a write to `l[at..at + n]` is a run of stores
pub put_mid-sets : (at n : ℕ) (l v : List ℕ) → at + n ≤ length l → length v ≡ n → put_mid at n l v ≡ sets l at v
put_mid-sets at n l v h e = rw (drop-drop, ← e, sets-eq v l at (omega arith)) (sym (append_assoc (take at l) v (drop (at + length v) l)))
