-- Laws of the definitions of specs/Turns.antt, as the functions of this crate go through a value turn by turn.
--
-- In order: the place of the first that passes a test, in a part of a list; blocks of plain bytes lie within a stretch; a stretch
-- that is copied; what a stretch decodes to, and how it counts; the same of a + or a %, and of any turn; a comparison, one turn
-- further.
--
-- Not here: what a stretch is, and how a whole value is cut into turns (`Cuts`); one symbol (`Coding`).
-- Assumes nothing.
use Prim.Native.Nat.{ℕ, zero, suc, ◌+◌, ◌-◌, ◌<◌, ◌≤◌, min}
use mathlib.Core.Path.{◌≡◌, refl, sym, ◌∙◌, ap, subst}
use mathlib.Core.List.{List, [], ◌∷◌, ◌++◌}
use mathlib.Core.Logic.{◌⊎◌, inl, inr}
use mathlib.Core.Bool.{Bool, true, false, cond, not, ◌&&◌, false≢true, and_assoc, and-true}
use native.Mathlib.Nat.{not-suc-le-zero, le_of_suc-le-suc, zero-add, add_assoc}
use native.Mathlib.Numerals.{add-one}
use native.Mathlib.Omega.{arith}
use borrow.Author.Tests.{eqb-true, ne_eqb, ltb-true, ltb-false}
use lib.Dec.{ltb, eqb}
use lib.ListN.{get_or, length, set, take, drop, length-drop, length-take, drop_of_length-le}
use lib.Seq.{drop-drop, drop-cons, length-take-le, take-nil, take-suc, take-take, take-add}
use Rattle.octets.specs.Lists.{every, same, part}
use Rattle.octets.specs.Writing.{Appended}
use Rattle.octets.specs.Search.{bit, count, index_where}
use Rattle.octets.proofs.Booleans.{by-test, or-none, or_cases}
use Rattle.octets.proofs.Lists.{same_length, part-rest}
use Rattle.octets.proofs.Writing.{append-both, store-one}
use Rattle.octets.proofs.Searches.{index-le}
use Rattle.std.specs.Option.{is_some, unwrap_or}
use Rattle.std.specs.Prelude.{Option, position}
use Rattle.std.specs.List.{position_or_len}
use Rattle.encoding.specs.Hex.{hex_value}
use Rattle.form_coding.specs.declared.Symbol.{Symbol}
use Rattle.form_coding.specs.Coding.{escaped, is_escape, plain, first_byte, extra, decode_after, decode, symbol_of}
use Rattle.form_coding.specs.Turns.{is_mark, is_plain, stretch, ends_stretch, stretches_after, stretches, turns, turn_width, turn_bytes, stands_at}
use Rattle.form_coding.proofs.Coding.{escape-digits, extra-le, decode-some}

-- ---- the place of the first that passes, in a part of the list

module _ (p : ℕ → Bool) where
  -- past k elements of which none passes, it is k nearer
  pub index-drop : (k : ℕ) (l : List ℕ) → k ≤ index_where p l → index_where p l ≡ k + index_where p (drop k l)
  unfolding index_where
  index-drop zero l h = sym (zero-add (index_where p l))
  index-drop (suc k) [] h = absurd (not-suc-le-zero h)
  index-drop (suc k) (x ∷ xs) h = by (p x) h (index-drop k xs)
    where
      by : (q : Bool) → suc k ≤ cond q 0 (suc (index_where p xs)) → (k ≤ index_where p xs → index_where p xs ≡ k + index_where p (drop k xs))
          → cond q 0 (suc (index_where p xs)) ≡ suc k + index_where p (drop k xs)
      by true h f = absurd (not-suc-le-zero h)
      by false h f = let e = f (le_of_suc-le-suc h) in omega arith

  -- among the first m it is where it is, or m where none of them passes
  pub index-take : (m : ℕ) (l : List ℕ) → index_where p (take m l) ≡ min m (index_where p l)
  unfolding index_where
  index-take zero l = omega arith
  index-take (suc m) [] = omega arith
  index-take (suc m) (x ∷ xs) = by (p x) (index-take m xs)
    where
      by : (q : Bool) → index_where p (take m xs) ≡ min m (index_where p xs)
          → cond q 0 (suc (index_where p (take m xs))) ≡ min (suc m) (cond q 0 (suc (index_where p xs)))
      by true e = omega arith
      by false e = omega arith

  -- none of the first m passes
  pub every-fails : (m : ℕ) (l : List ℕ) → m ≤ length l → every (λ x. not (p x)) (take m l) ≡ true → m ≤ index_where p l
  unfolding index_where every
  every-fails zero l h e = omega arith
  every-fails (suc m) [] h e = absurd (not-suc-le-zero h)
  every-fails (suc m) (x ∷ xs) h e = by (p x) e (every-fails m xs (le_of_suc-le-suc h))
    where
      by : (q : Bool) → (not q && every (λ y. not (p y)) (take m xs)) ≡ true → (every (λ y. not (p y)) (take m xs) ≡ true → m ≤ index_where p xs)
          → suc m ≤ cond q 0 (suc (index_where p xs))
      by true e f = absurd (false≢true e)
      by false e f = let r = f e in omega arith

  -- as std's search gives it
  where-position : (l : List ℕ) → index_where p l ≡ position_or_len p l
  unfolding index_where
  where-position [] = refl
  where-position (c ∷ t) = by-test (p c) (λ e. rw e refl) (λ e. rw (e, where-position t) (omega arith))

  pub unwrap-where : (l : List ℕ) (r : Option ℕ) → r ≡ position p l → unwrap_or r (length l) ≡ index_where p l
  unwrap-where l r e =
      let at = where-position l in
      let h = index-le p l in
      rw (e, ← at) (by-test (ltb (index_where p l) (length l)) (λ t. rw t refl) (λ f. rw f (omega (arith, ltb-false))))

-- ---- a stretch

-- blocks of plain bytes lie within it
pub stretch-block : (s : List ℕ) (k n : ℕ) → k ≤ stretch s → k + n ≤ length s → every is_plain (part s k n) ≡ true → k + n ≤ stretch s
stretch-block s k n h f e =
    let more = every-fails is_mark n (drop k s) (simp length-drop (omega arith)) e in
    let past = index-drop is_mark k s h in
    omega arith

-- ---- a stretch that is copied

module _ (b : List ℕ) (at : ℕ) (s : List ℕ) where
  -- one byte more
  pub copy_more : (m : List ℕ) (i : ℕ) → i < length s → Appended b at (take i s) m (at + i)
      → Appended b at (take (i + 1) s) (set m (at + i) (get_or s i 0)) (at + (i + 1))
  copy_more m i h w =
      subst (λ (k : ℕ). Appended b at (take k s) (set m (at + i) (get_or s i 0)) (at + k)) (sym (add-one i))
      (rw (take-suc s i 0 h)
      (subst (λ (k : ℕ). Appended b at (take i s ++ get_or s i 0 ∷ []) (set m (at + i) (get_or s i 0)) k) (omega arith)
      (append-both w (store-one m (at + i) (get_or s i 0)))))

  module _ {m : List ℕ} {short n : ℕ} (is : n ≡ stretch (take short s)) (w : Appended b at (take n (take short s)) m (at + n)) where
    front : n ≤ short → Appended b at (take n s) m (at + n)
    front h = rw (sym (take-take n short s h)) w

    -- it ends within the first bytes
    pub copy_ended : n < short → (n ≡ stretch s) × Appended b at (take n s) m (at + n)
    copy_ended h = (omega (arith, is, index-take is_mark short s), front (omega arith))

    -- it goes beyond them: the rest of it is copied behind them
    pub copy_rest : {a : List ℕ} {k : ℕ} → short ≤ n → k ≡ stretch (part s short (length s - short))
        → Appended m (at + short) (take k (part s short (length s - short))) a (at + short + k)
        → (short + k ≡ stretch s) × Appended b at (take (short + k) s) a (at + (short + k))
    copy_rest {a} {k} h g more =
        let among = index-take is_mark short s in
        let whole : n ≡ short = omega (arith, is, among) in
        let beyond = index-drop is_mark short s (omega (arith, is, among)) in
        let rest : k ≡ stretch (drop short s) = g ∙ ap stretch (part-rest s short) in
        let first : Appended b at (take short s) m (at + short) = subst (λ (j : ℕ). Appended b at (take j s) m (at + j)) whole (front (omega arith)) in
        (omega arith, rw (take-add short k s, sym (add_assoc at short k)) (append-both first (rw (part-rest s short) at more)))

-- ---- what a stretch decodes to, and how it counts

-- a byte that is plain begins no escape, and stands for itself
module _ (c : ℕ) (t : List ℕ) (e : is_mark c ≡ false) where
  no-percent : eqb c 37 ≡ false
  no-percent = (or-none (eqb c 37) (eqb c 43) e).0

  no_plus : eqb c 43 ≡ false
  no_plus = (or-none (eqb c 37) (eqb c 43) e).1

  plain-extra : extra (c ∷ t) ≡ 0
  unfolding extra escaped
  plain-extra = rw no-percent

  plain-first : first_byte (c ∷ t) ≡ c
  unfolding first_byte escaped plain
  plain-first = rw (no-percent, no_plus)

  plain-decode : decode (c ∷ t) ≡ c ∷ decode t
  unfolding decode_after
  plain-decode = rw (plain-extra, plain-first)

  plain-turns : turns (c ∷ t) ≡ bit (ends_stretch (c ∷ t)) + turns t
  unfolding stretches_after count
  plain-turns = rw (plain-extra, e) (omega arith)

pub decode-stretch : (l : List ℕ) → decode l ≡ take (stretch l) l ++ decode (drop (stretch l) l)
unfolding index_where
decode-stretch [] = refl
decode-stretch (c ∷ t) =
    by-test (is_mark c) (λ e. rw e)
    (λ e. rw (plain-decode c t e, e) (ap (λ (r : List ℕ). c ∷ r) (decode-stretch t)))

pub turns-stretch : (c : ℕ) (t : List ℕ) → is_mark c ≡ false → turns (c ∷ t) ≡ suc (turns (drop (stretch (c ∷ t)) (c ∷ t)))
unfolding index_where ends_stretch
turns-stretch c [] e = plain-turns c [] e ∙ rw e (omega arith)
turns-stretch c (d ∷ t) e =
    by-test (is_mark d) (λ f. plain-turns c (d ∷ t) e ∙ rw (e, f) (omega arith))
    (λ f. plain-turns c (d ∷ t) e ∙ rw (e, f) (zero-add (turns (d ∷ t)) ∙ turns-stretch d t f ∙ rw f))

-- ---- a + or a %

-- bytes that belong to an escape are passed over
stretches-after : (k : ℕ) (l : List ℕ) → stretches_after k l ≡ stretches (drop k l)
unfolding stretches_after
stretches-after zero [] = refl
stretches-after (suc k) [] = refl
stretches-after (suc k) (c ∷ t) = stretches-after k t
stretches-after zero (c ∷ t) = refl

-- a digit is no % and no +
digit-plain : (d : ℕ) → is_some (hex_value true d) ≡ true → is_mark d ≡ false
unfolding hex_value
digit-plain d h = by-test (is_mark d) (λ e. absurd (by (or_cases (eqb d 37) (eqb d 43) e))) (λ e. e)
  where
    no_digit : (x : ℕ) → d ≡ x → is_some (hex_value true x) ≡ false → ⊥
    no_digit x e f = false≢true (sym f ∙ ap (λ (y : ℕ). is_some (hex_value true y)) (sym e) ∙ h)

    by : (eqb d 37 ≡ true) ⊎ (eqb d 43 ≡ true) → ⊥
    by (inl e) = no_digit 37 (eqb-true d 37 e) refl
    by (inr e) = no_digit 43 (eqb-true d 43 e) refl

-- an escape has no other % than its first byte, and no +
marks-after : (c : ℕ) (t : List ℕ) → count is_mark t ≡ count is_mark (drop (extra (c ∷ t)) t)
unfolding extra count
marks-after c t = by-test (is_escape (c ∷ t)) (λ e. rw e (digits t (escape-digits (c ∷ t) e))) (λ e. rw e)
  where
    digits : (t : List ℕ) → (is_some (hex_value true (get_or t 0 0)) ≡ true) × (is_some (hex_value true (get_or t 1 0)) ≡ true) → count is_mark t ≡ count is_mark (drop 2 t)
    digits [] h = refl
    digits (d ∷ []) h = rw (digit-plain d h.0)
    digits (d ∷ f ∷ t) h = rw (digit-plain d h.0, digit-plain f h.1) (omega arith)

pub turns-mark : (c : ℕ) (t : List ℕ) → is_mark c ≡ true → turns (c ∷ t) ≡ suc (turns (drop (extra (c ∷ t)) t))
unfolding stretches_after count ends_stretch
turns-mark c t e = let s = stretches-after (extra (c ∷ t)) t in let m = marks-after c t in rw (e, ends t) (omega arith)
  where
    ends : (t : List ℕ) → ends_stretch (c ∷ t) ≡ false
    ends [] = rw e
    ends (d ∷ t) = rw e

-- ---- any turn

pub decode-turn : (l : List ℕ) → 0 < length l → decode l ≡ turn_bytes l ++ decode (drop (turn_width l) l)
unfolding turn_bytes turn_width
decode-turn l h = by-test (is_mark (get_or l 0 0)) (λ e. rw e (decode-some l h)) (λ e. rw e (decode-stretch l))

pub turns-turn : (l : List ℕ) → 0 < length l → turns l ≡ suc (turns (drop (turn_width l) l))
unfolding turn_width
turns-turn [] h = absurd (not-suc-le-zero h)
turns-turn (c ∷ t) h = by-test (is_mark c) (λ e. rw (e, add-one) (turns-mark c t e)) (λ e. rw e (turns-stretch c t e))

-- it is not empty, lies within the list, and gives no more bytes than it takes
pub turn-fits : (l : List ℕ) → 0 < length l → (0 < turn_width l) × (turn_width l ≤ length l) × (length (turn_bytes l) ≤ turn_width l)
unfolding turn_width turn_bytes index_where
turn-fits [] h = absurd (not-suc-le-zero h)
turn-fits (c ∷ t) h =
    by-test (is_mark c) (λ e. rw e (omega arith, extra-le (c ∷ t) h, omega arith))
    (λ e.
    let i = index-le is_mark t in
    let n = length-take-le (stretch t) t i in
    rw e (omega arith, omega arith, omega arith))

-- what it is: where the list begins with a + or a %, and with a stretch
module _ (l : List ℕ) where
  pub turn-symbol : is_mark (get_or l 0 0) ≡ true → {s : Symbol} → s ≡ symbol_of l → (turn_width l ≡ s.width) × (turn_bytes l ≡ s.byte ∷ [])
  unfolding turn_width turn_bytes symbol_of
  turn-symbol m e = (rw (m, e), rw (m, e))

  pub turn-stretch : is_mark (get_or l 0 0) ≡ false → {n : ℕ} → n ≡ stretch l → (turn_width l ≡ n) × (turn_bytes l ≡ take n l)
  unfolding turn_width turn_bytes
  turn-stretch m e = (rw (m, e), rw (m, e))

pub turns-end : (l : List ℕ) → length l ≡ 0 → turns l ≡ 0
unfolding stretches_after count
turns-end [] h = refl
turns-end (c ∷ t) h = absurd (omega arith)

-- ---- a comparison

-- one byte
pub stands_one : (e : List ℕ) (k x : ℕ) → (ltb k (length e) && eqb x (get_or e k 0)) ≡ stands_at e k (x ∷ [])
unfolding same
stands_one e k x =
    by-test (ltb k (length e)) (λ f. rw (f, drop-cons e k 0 (ltb-true k (length e) f)) (sym (and-true (eqb x (get_or e k 0)))))
    (λ f. rw (f, drop_of_length-le e (ltb-false k (length e) f)))

-- a text that is looked for past the end, and one that is longer than what is left
module _ (e : List ℕ) (k : ℕ) (text : List ℕ) where
  pub stands-past : length e < k → eqb (length text) 0 ≡ stands_at e k text
  unfolding same
  stands-past h = rw (drop_of_length-le e {i = k} (omega arith), take-nil) (empty text)
    where
      empty : (t : List ℕ) → eqb (length t) 0 ≡ same t []
      empty [] = refl
      empty (x ∷ t) = ne_eqb (suc (length t)) 0 (λ f. absurd (omega arith))

  pub stands-long : length e - k < length text → false ≡ stands_at e k text
  stands-long h = sym (same_length text (part e k (length text)) (λ f. absurd (omega (arith, f, length-take (length text) (drop k e), length-drop k e))))

-- two texts, one behind the other, against a list
same-both : (xs ys l : List ℕ) → same (xs ++ ys) l ≡ (same xs (take (length xs) l) && same ys (drop (length xs) l))
unfolding same
same-both [] ys l = refl
same-both (x ∷ xs) ys [] = refl
same-both (x ∷ xs) ys (y ∷ l) = rw (same-both xs ys l) (sym (and_assoc (eqb x y) (same xs (take (length xs) l)) (same ys (drop (length xs) l))))

-- the answer so far and the answer of the rest, one turn further
pub compare-more : (ok : Bool) (l e : List ℕ) (k : ℕ) → 0 < length l
    → ((ok && stands_at e k (turn_bytes l)) && same (decode (drop (turn_width l) l)) (drop (k + length (turn_bytes l)) e))
    ≡ (ok && same (decode l) (drop k e))
compare-more ok l e k h =
    let text = turn_bytes l in
    let rest = decode (drop (turn_width l) l) in
    and_assoc ok (stands_at e k text) (same rest (drop (k + length text) e))
    ∙ ap (λ (b : Bool). ok && b) (sym (rw (decode-turn l h, same-both text rest (drop k e), drop-drop)))
