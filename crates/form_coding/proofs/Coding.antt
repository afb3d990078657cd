-- Laws of the definitions of specs/Coding.antt, as the functions of this crate step through a text.
--
-- In order: an escape, a sound byte and a symbol at the front of a text, by cases; the width of a symbol, and of a byte
-- that is written; one symbol or one byte further, and the end, for `decode`, `well_formed` and `encode`; the scans that
-- accumulate an answer, one step further and at the end; a byte that is written, by cases.
--
-- Not here: what the definitions say of whole texts (`RoundTrip`), hex digits (`Rattle.encoding.proofs.Hex`).
-- Assumes nothing.
use Prim.Native.Nat.{ℕ, zero, suc, ◌+◌, ◌*◌, ◌/◌, ◌%◌, ◌<◌, ◌≤◌}
use mathlib.Core.Path.{◌≡◌, refl, sym, ◌∙◌, ap}
use mathlib.Core.List.{List, [], ◌∷◌, ◌++◌}
use mathlib.Core.Bool.{Bool, true, false, ◌&&◌, and_assoc, and-true, false≢true}
use native.Mathlib.Nat.{not-suc-le-zero}
use native.Mathlib.Numerals.{add-one}
use native.Mathlib.Omega.{arith}
use borrow.Author.Tests.{eq-eqb, ne_eqb, leb-true, leb-false}
use Rattle.std.specs.Prelude.{Option, Some, None, option_map, option_and_then}
use Rattle.std.specs.Option.{is_some}
use lib.Dec.{leb, eqb}
use lib.ListN.{get_or, length, drop, drop_of_length-le}
use lib.Seq.{drop-cons}
use Rattle.octets.specs.Lists.{same}
use Rattle.octets.proofs.Booleans.{by-test, cond_of, and_left, and_right}
use Rattle.encoding.specs.Hex.{hex_value, hex_digit}
use Rattle.form_coding.specs.declared.Symbol.{Symbol}
use Rattle.form_coding.specs.Coding.{hex_pair, escaped, is_escape, plain, first_byte, extra, decode_after, decode, symbol_of, sound, well_formed, is_kept, encode_byte, encode}

-- ---- an escape, by cases

-- two bytes have a byte where both are digits
pub pair-is : (h l : ℕ) → is_some (hex_pair h l) ≡ (is_some (hex_value true h) && is_some (hex_value true l))
pair-is h l = both (hex_value true h) (hex_value true l)
  where
    both : (x y : Option ℕ) → is_some (option_and_then (λ p. option_map (λ q. p * 16 + q) y) x) ≡ (is_some x && is_some y)
    both None y = refl
    both (Some x) None = refl
    both (Some x) (Some y) = refl

module _ (l : List ℕ) where
  -- what begins no escape, and what does behind a %
  pub escape-other : (get_or l 0 0 ≡ 37 → ⊥) → escaped l ≡ None
  unfolding escaped
  escape-other h = rw (ne_eqb (get_or l 0 0) 37 h)

  pub escape-percent : get_or l 0 0 ≡ 37 → escaped l ≡ hex_pair (get_or l 1 0) (get_or l 2 0)
  unfolding escaped
  escape-percent h = rw (eq-eqb (get_or l 0 0) 37 h)

  -- an escape has two digits
  pub escape-digits : is_escape l ≡ true → (is_some (hex_value true (get_or l 1 0)) ≡ true) × (is_some (hex_value true (get_or l 2 0)) ≡ true)
  unfolding escaped
  escape-digits e =
      by-test (eqb (get_or l 0 0) 37)
      (λ p.
      let both = sym (pair-is (get_or l 1 0) (get_or l 2 0)) ∙ rw p at e in (
        and_left (is_some (hex_value true (get_or l 1 0))) (is_some (hex_value true (get_or l 2 0))) both,
        and_right (is_some (hex_value true (get_or l 1 0))) (is_some (hex_value true (get_or l 2 0))) both,
      ))
      (λ p. absurd (false≢true (rw p at e)))

-- past the end stands 0, which is no digit
pub escape-short : (l : List ℕ) → length l < 3 → escaped l ≡ None
unfolding escaped hex_value
escape-short [] h = refl
escape-short (a ∷ []) h = by-test (eqb a 37) (λ e. rw e) (λ e. rw e)
escape-short (a ∷ b ∷ []) h = by-test (eqb a 37) (λ e. rw e (no_second (hex_value true b))) (λ e. rw e)
  where
    no_second : (x : Option ℕ) → option_and_then (λ p. option_map (λ q. p * 16 + q) None) x ≡ None
    no_second None = refl
    no_second (Some x) = refl
escape-short (a ∷ b ∷ c ∷ t) h = absurd (omega arith)

-- ---- the first byte is sound, and the first symbol, by cases

module _ (l : List ℕ) where
  pub sound-other : (get_or l 0 0 ≡ 37 → ⊥) → true ≡ sound l
  unfolding sound
  sound-other h = rw (ne_eqb (get_or l 0 0) 37 h)

  pub sound-percent : get_or l 0 0 ≡ 37 → is_escape l ≡ sound l
  unfolding sound
  sound-percent h = rw (eq-eqb (get_or l 0 0) 37 h)

  pub symbol-escape : (b : ℕ) → escaped l ≡ Some b → symbol_of l ≡ record { byte = b; width = 3 }
  unfolding symbol_of first_byte extra
  symbol-escape b e = rw e

  pub symbol-space : get_or l 0 0 ≡ 43 → symbol_of l ≡ record { byte = 32; width = 1 }
  unfolding symbol_of first_byte extra plain
  symbol-space h = rw (escape-other l (λ e. absurd (omega arith)), eq-eqb (get_or l 0 0) 43 h)

  pub symbol-itself : escaped l ≡ None → (get_or l 0 0 ≡ 43 → ⊥) → symbol_of l ≡ record { byte = get_or l 0 0; width = 1 }
  unfolding symbol_of first_byte extra plain
  symbol-itself e h = rw (e, ne_eqb (get_or l 0 0) 43 h)

-- ---- widths

-- a symbol takes no more bytes than there are
pub extra-le : (l : List ℕ) → 0 < length l → extra l + 1 ≤ length l
unfolding extra
extra-le [] h = absurd (not-suc-le-zero h)
extra-le (a ∷ []) h = rw (escape-short (a ∷ []) (omega arith)) (omega arith)
extra-le (a ∷ b ∷ []) h = rw (escape-short (a ∷ b ∷ []) (omega arith)) (omega arith)
extra-le (a ∷ b ∷ d ∷ t) h = cond_of (λ k. k + 1 ≤ suc (suc (suc (length t)))) (is_escape (a ∷ b ∷ d ∷ t)) 2 0 (λ e. omega arith) (λ e. omega arith)

-- a byte is written in one to three
pub byte-length : (b : ℕ) → (1 ≤ length (encode_byte b)) × (length (encode_byte b) ≤ 3)
unfolding encode_byte
byte-length b =
    by-test (is_kept b) (λ e. rw e (omega arith, omega arith))
    (λ e. by-test (eqb b 32) (λ f. rw (e, f) (omega arith, omega arith)) (λ f. rw (e, f) (omega arith, omega arith)))

-- ---- one symbol or one byte further

-- bytes that belong to an escape are passed over
pub decode-after : (k : ℕ) (l : List ℕ) → decode_after k l ≡ decode (drop k l)
unfolding decode_after
decode-after zero [] = refl
decode-after (suc k) [] = refl
decode-after (suc k) (c ∷ t) = decode-after k t
decode-after zero (c ∷ t) = refl

pub decode-some : (l : List ℕ) → 0 < length l → decode l ≡ first_byte l ∷ decode (drop (extra l + 1) l)
unfolding decode_after
decode-some [] h = absurd (not-suc-le-zero h)
decode-some (c ∷ t) h = rw add-one (ap (λ (r : List ℕ). first_byte (c ∷ t) ∷ r) (decode-after (extra (c ∷ t)) t))

-- the symbol that begins the list takes some bytes, and no more than there are
pub width_fits : (l : List ℕ) → 0 < length l → {s : Symbol} → s ≡ symbol_of l → (0 < s.width) × (s.width ≤ length l)
unfolding symbol_of
width_fits l h {s} e =
    let w : s.width ≡ extra l + 1 = ap (λ (s : Symbol). s.width) e in
    let f = extra-le l h in
    (omega arith, omega arith)

module _ (v : List ℕ) (i : ℕ) (h : i < length v) where
  pub well-step : well_formed (drop i v) ≡ (sound (drop i v) && well_formed (drop (i + 1) v))
  unfolding well_formed
  well-step = rw (add-one, drop-cons v i 0)

  pub encode-step : encode (drop i v) ≡ encode_byte (get_or v i 0) ++ encode (drop (i + 1) v)
  unfolding encode
  encode-step = rw (add-one, drop-cons v i 0)

-- ---- past the end nothing is left

pub decode-end : (l : List ℕ) → length l ≡ 0 → decode l ≡ []
unfolding decode_after
decode-end [] h = refl
decode-end (c ∷ t) h = absurd (omega arith)

module _ (v : List ℕ) (i : ℕ) (h : length v ≤ i) where
  pub well-end : well_formed (drop i v) ≡ true
  unfolding well_formed
  well-end = rw (drop_of_length-le v h)

  pub encode-end : encode (drop i v) ≡ []
  unfolding encode
  encode-end = rw (drop_of_length-le v h)

-- ---- scans: the answer so far and the answer of the rest, one step further and at the end

module _ (ok : Bool) (v : List ℕ) (i : ℕ) where
  pub well-more : i < length v → ((ok && sound (drop i v)) && well_formed (drop (i + 1) v)) ≡ (ok && well_formed (drop i v))
  well-more h = and_assoc ok (sound (drop i v)) (well_formed (drop (i + 1) v)) ∙ rw (well-step v i h)

  pub well-done : length v ≤ i → (ok && well_formed (drop i v)) ≡ ok
  well-done h = rw (well-end v i h) (and-true ok)

same-nil : (e : List ℕ) (k : ℕ) → same [] (drop k e) ≡ leb (length e) k
unfolding same
same-nil e k =
    by-test (leb (length e) k) (λ f. let h = leb-true (length e) k f in rw (f, drop_of_length-le e h))
    (λ f. let h = leb-false (length e) k f in rw (f, drop-cons e k 0 h))

pub compare-done : (ok : Bool) (l e : List ℕ) (k : ℕ) → length l ≡ 0 → (ok && leb (length e) k) ≡ (ok && same (decode l) (drop k e))
compare-done ok l e k h = rw (decode-end l h, same-nil e k)

-- ---- a byte that is written, by cases

module _ (b : ℕ) where
  pub byte-kept : is_kept b ≡ true → encode_byte b ≡ b ∷ []
  unfolding encode_byte
  byte-kept e = rw e

  module _ (e : is_kept b ≡ false) where
    pub byte-space : b ≡ 32 → encode_byte b ≡ 43 ∷ []
    unfolding encode_byte
    byte-space h = rw (e, eq-eqb b 32 h)

    pub byte-escape : (b ≡ 32 → ⊥) → encode_byte b ≡ 37 ∷ hex_digit 65 (b / 16) ∷ hex_digit 65 (b % 16) ∷ []
    unfolding encode_byte
    byte-escape h = rw (e, ne_eqb b 32 h)
