-- Laws of the list functions by which a store is read and written (specs/Store.antt).
--
-- In order: tables, `tabulate n f`: length, elements, equal tables, one entry changed, a map over one, the chunks of a list; pieces: cutting what
-- was joined and joining what was cut; pieces of one width: their parts and their length; lists of one element.
--
-- Not here: parts of lists in general (octets' `Lists`).
-- Assumes nothing.
use mathlib.Core.Path.{◌≡◌, refl, sym, ap, ◌∙◌, subst}
use mathlib.Core.Logic.{◌≢◌, ⊎_elim}
use mathlib.Core.List.{List, [], ◌∷◌, ◌++◌, map, append_assoc, append-nil, map-append}
use Prim.Native.Nat.{ℕ, zero, suc, ◌+◌, ◌*◌, ◌-◌, ◌≤◌, ◌<◌}
use native.Mathlib.Nat.{zero-mul, suc-mul, sub-zero, zero-sub, suc-sub-suc, not-suc-le-zero, le_of_suc-le-suc, eq-or-lt_of_le}
use native.Mathlib.Decide.{ℕ_discrete}
use native.Mathlib.Omega.{arith}
use lib.ListN.{length, take, drop, get_or, set, replicate, length-append, length-set, take-append-drop, get_or-append}
use lib.Seq.{drop-drop, take-add, take-append_seam, drop-append_seam, take_at, drop-append-add, get_or_at, get_or-set_same, get_or-set_other, ext_get_or}
use Rattle.std.specs.Simd.{first_chunks}
use Rattle.octets.specs.Lists.{part}
use Rattle.token_store.specs.Store.{cut, concat, tabulate}

-- ---- tables

module _ {A : Type 0} (f : ℕ → A) where
  pub length-tabulate : (n : ℕ) → length (tabulate n f) ≡ n
  unfolding tabulate
  length-tabulate zero = refl
  length-tabulate (suc n) = simp (length-append, length-tabulate n) (omega arith)

  pub get_d_tabulate : (n i : ℕ) (d : A) → i < n → get_or (tabulate n f) i d ≡ f i
  unfolding tabulate
  get_d_tabulate zero i d h = absurd (not-suc-le-zero h)
  get_d_tabulate (suc n) i d h =
      ⊎_elim
      (λ e. rw e (get_or_at (tabulate n f) (f n) [] d n (length-tabulate n)))
      (λ l. get_or-append (tabulate n f) (f n ∷ []) d i (rw length-tabulate l) ∙ get_d_tabulate n i d l)
      (eq-or-lt_of_le (le_of_suc-le-suc h))

pub tabulate-cong : {A : Type 0} (f g : ℕ → A) (n : ℕ) → ((i : ℕ) → i < n → f i ≡ g i) → tabulate n f ≡ tabulate n g
unfolding tabulate
tabulate-cong f g zero h = refl
tabulate-cong f g (suc n) h = rw (tabulate-cong f g n (λ i l. h i (omega arith)), h n (omega arith))

-- a list is the table of its elements
pub tabulate-list : {A : Type 0} (f : ℕ → A) (d : A) (n : ℕ) (l : List A) → length l ≡ n → ((i : ℕ) → i < n → f i ≡ get_or l i d) → tabulate n f ≡ l
tabulate-list f d n l e h =
    ext_get_or d (tabulate n f) l (length-tabulate f n ∙ sym e) (λ i lt. let b : i < n = rw length-tabulate at lt in get_d_tabulate f n i d b ∙ h i b)

pub tabulate-set : {A : Type 0} (n i : ℕ) (x : A) (f g : ℕ → A) → g i ≡ x → ((k : ℕ) → k ≢ i → g k ≡ f k) → tabulate n g ≡ set (tabulate n f) i x
tabulate-set n i x f g e h =
    ext_get_or x (tabulate n g) (set (tabulate n f) i x) (simp (length-set, length-tabulate)) (λ k l. at k (rw length-tabulate at l) (ℕ_discrete k i))
  where
    at : (k : ℕ) → k < n → Dec (k ≡ i) → get_or (tabulate n g) k x ≡ get_or (set (tabulate n f) i x) k x
    at k l (yes q) = get_d_tabulate g n k x l ∙ ap g q ∙ e ∙ sym (rw q (get_or-set_same (tabulate n f) i x x (rw length-tabulate (rw q at l))))
    at k l (no q) = get_d_tabulate g n k x l ∙ h k q ∙ sym (get_or-set_other (tabulate n f) i k x x q ∙ get_d_tabulate f n k x l)

pub map-tabulate : {A B : Type 0} (g : A → B) (f : ℕ → A) (n : ℕ) → map g (tabulate n f) ≡ tabulate n (λ k. g (f k))
unfolding tabulate
map-tabulate g f zero = refl
map-tabulate g f (suc n) = map-append g (tabulate n f) (f n ∷ []) ∙ rw (map-tabulate g f n)

-- the chunks of a list are the table of its parts of that width
chunk-at : {A : Type 0} (w n : ℕ) (l : List A) (i : ℕ) → i < n → take w (drop (i * w) l) ≡ get_or (first_chunks w n l) i []
chunk-at w zero l i h = absurd (not-suc-le-zero h)
chunk-at w (suc n) l zero h = rw zero-mul
chunk-at w (suc n) l (suc i) h =
    let e : suc i * w ≡ w + i * w = omega (arith, suc-mul i w) in
    rw e (ap (λ r. take w r) (sym (drop-drop (i * w) w l)) ∙ chunk-at w n (drop w l) i (le_of_suc-le-suc h))

length-chunks : {A : Type 0} (w n : ℕ) (l : List A) → length (first_chunks w n l) ≡ n
length-chunks w zero l = refl
length-chunks w (suc n) l = ap (λ (k : ℕ). suc k) (length-chunks w n (drop w l))

pub chunks-table : (w n : ℕ) (l : List ℕ) → first_chunks w n l ≡ tabulate n (λ i. part l (i * w) w)
chunks-table w n l = sym (tabulate-list (λ i. part l (i * w) w) [] n (first_chunks w n l) (length-chunks w n l) (chunk-at w n l))

-- ---- pieces

-- how long the pieces are together
abbrev pub total : List ℕ → ℕ
total [] = 0
total (w ∷ ws) = w + total ws

-- the pieces by their places, from `at` on
abbrev pub cut_from : ℕ → List ℕ → List ℕ → List (List ℕ)
cut_from at [] l = []
cut_from at (w ∷ ws) l = part l at w ∷ cut_from (at + w) ws l

pub cut-from : (ws l : List ℕ) (at : ℕ) → cut ws (drop at l) ≡ cut_from at ws l
unfolding cut
cut-from [] l at = refl
cut-from (w ∷ ws) l at = rw (drop-drop w at l, cut-from ws l (at + w))

pub cut-concat : (fs : List (List ℕ)) → cut (map length fs) (concat fs) ≡ fs
unfolding cut concat
cut-concat [] = refl
cut-concat (f ∷ fs) = rw (take-append_seam, drop-append_seam, cut-concat fs)

pub concat-cut : (ws l : List ℕ) → drop (total ws) l ≡ [] → concat (cut ws l) ≡ l
unfolding concat cut
concat-cut [] l e = sym e
concat-cut (w ∷ ws) l e = rw (concat-cut ws (drop w l) (drop-drop (total ws) w l ∙ e)) (take-append-drop w l)

concat-append : (xs ys : List (List ℕ)) → concat (xs ++ ys) ≡ concat xs ++ concat ys
unfolding concat
concat-append [] ys = refl
concat-append (x ∷ xs) ys = rw (concat-append xs ys, append_assoc)

-- parts of one width, one behind the other, are one part
pub concat-parts : (b : List ℕ) (at w n : ℕ) → concat (tabulate n (λ i. part b (at + i * w) w)) ≡ part b at (n * w)
unfolding tabulate concat
concat-parts b at w zero = rw zero-mul
concat-parts b at w (suc n) =
    concat-append (tabulate n (λ i. part b (at + i * w) w)) (part b (at + n * w) w ∷ [])
    ∙ rw (concat-parts b at w n, append-nil, suc-mul, take-add (n * w) w (drop at b), drop-drop)

-- ---- pieces of one width

module _ (w : ℕ) (d : List ℕ) where
  pub part-concat : (ps : List (List ℕ)) → ((k : ℕ) → length (get_or ps k d) ≡ w) → (i : ℕ) → i < length ps → part (concat ps) (i * w) w ≡ get_or ps i d
  unfolding concat
  part-concat [] h i lt = absurd (not-suc-le-zero lt)
  part-concat (x ∷ xs) h zero lt = rw zero-mul (take_at x (concat xs) w (h 0))
  part-concat (x ∷ xs) h (suc i) lt =
      let n : length x + i * w ≡ suc i * w = omega (arith, suc-mul i w, h 0) in
      ap (λ (l : List ℕ). take w l) (subst (λ (k : ℕ). drop k (x ++ concat xs) ≡ drop (i * w) (concat xs)) n (drop-append-add x (concat xs) (i * w)))
      ∙ part-concat xs (λ k. h (suc k)) i (le_of_suc-le-suc lt)

  pub length-concat : (ps : List (List ℕ)) → ((k : ℕ) → length (get_or ps k d) ≡ w) → length (concat ps) ≡ length ps * w
  unfolding concat
  length-concat [] h = rw zero-mul
  length-concat (x ∷ xs) h = length-append x (concat xs) ∙ omega (arith, suc-mul (length xs) w, h 0, length-concat xs (λ k. h (suc k)))

-- ---- lists of one element

take-replicate : (a n m : ℕ) → n ≤ m → take n (replicate m a) ≡ replicate n a
take-replicate a zero m h = refl
take-replicate a (suc n) zero h = absurd (not-suc-le-zero h)
take-replicate a (suc n) (suc m) h = ap {B = List ℕ} (λ r. a ∷ r) (take-replicate a n m (le_of_suc-le-suc h))

drop-replicate : (a n m : ℕ) → drop n (replicate m a) ≡ replicate (m - n) a
drop-replicate a zero m = rw sub-zero
drop-replicate a (suc n) zero = rw zero-sub
drop-replicate a (suc n) (suc m) = rw suc-sub-suc (drop-replicate a n m)

pub part-replicate : (a m at n : ℕ) → at + n ≤ m → part (replicate m a) at n ≡ replicate n a
part-replicate a m at n h = rw (drop-replicate a at m) (take-replicate a n (m - at) (omega arith))
