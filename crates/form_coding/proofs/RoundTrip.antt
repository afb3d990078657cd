-- What the writer writes of any bytes decodes to those bytes, is well formed, and holds no &, no = and no colon.
--
-- In order: one byte that is written, then all of them; separators, at which a text is read in two; the length of what is
-- written and of what is decoded, and a text that is empty.
--
-- Not here: how a function steps through a text (`Coding`), hex digits (`Rattle.encoding.proofs.Hex`).
-- Assumes nothing.
use Prim.Native.Nat.{ℕ, zero, suc, ◌+◌, ◌*◌, ◌/◌, ◌%◌, ◌<◌, ◌≤◌}
use mathlib.Core.Path.{◌≡◌, refl, sym, ◌∙◌, ap}
use mathlib.Core.List.{List, [], ◌∷◌, ◌++◌}
use mathlib.Core.Bool.{Bool, true, false, not, ◌&&◌, false≢true, and_assoc}
use native.Mathlib.Omega.{arith}
use borrow.Author.Tests.{ne_eqb, eqb-true, eqb-false, not-true}
use lib.Dec.{ltb, eqb, T}
use lib.ListN.{length, length-append, replicate}
use Rattle.octets.specs.Lists.{Bytes, every}
use Rattle.octets.proofs.Booleans.{by-test}
use Rattle.octets.proofs.Lists.{every_append, tail-bytes}
use Rattle.octets.proofs.Table.{every_from, below}
use Rattle.std.specs.Prelude.{Some, None}
use Rattle.encoding.specs.Hex.{hex_value, hex_digit}
use Rattle.encoding.proofs.Hex.{upper-round}
use Rattle.form_coding.specs.Coding.{escaped, is_escape, plain, first_byte, extra, decode_after, decode, sound, well_formed, is_kept, encode_byte, encode, lacks}
use Rattle.form_coding.proofs.Coding.{byte-length, byte-kept, byte-space, byte-escape}

-- ---- one byte that is written

-- a byte that is kept is none that is not
kept-not : (b x : ℕ) → is_kept x ≡ false → is_kept b ≡ true → eqb b x ≡ false
kept-not b x f t = ne_eqb b x (λ e. false≢true (sym f ∙ ap is_kept (sym e) ∙ t))

digit-plain : (n : ℕ) → n < 16 → eqb (hex_digit 65 n) 37 ≡ false
unfolding hex_digit
digit-plain n h = not-true (eqb (hex_digit 65 n) 37) (below (λ k. not (eqb (hex_digit 65 k) 37)) 16 tt n h)

module _ (b : ℕ) (h : b < 256) (rest : List ℕ) where
  high : b / 16 < 16
  high = omega arith

  low : b % 16 < 16
  low = omega arith

  -- % and the two digits of b, with what follows them
  abbrev escape : List ℕ
  escape = 37 ∷ hex_digit 65 (b / 16) ∷ hex_digit 65 (b % 16) ∷ rest

  is-escape : escaped escape ≡ Some b
  unfolding escaped
  is-escape = let whole : b / 16 * 16 + b % 16 ≡ b = omega arith in rw (upper-round (b / 16) high, upper-round (b % 16) low, whole)

  escape-round : decode escape ≡ b ∷ decode rest
  unfolding decode_after first_byte extra
  escape-round = rw is-escape

  escape-well : well_formed escape ≡ well_formed rest
  unfolding well_formed sound
  escape-well = rw (is-escape, digit-plain (b / 16) high, digit-plain (b % 16) low)

  byte-round : decode (encode_byte b ++ rest) ≡ b ∷ decode rest
  unfolding decode_after first_byte extra escaped plain
  byte-round =
      by-test (is_kept b) (λ e. rw (byte-kept b e, kept-not b 37 refl e, kept-not b 43 refl e))
      (λ e.
      by-test (eqb b 32) (λ f. rw (byte-space b e (eqb-true b 32 f), eqb-true b 32 f))
      (λ f. rw (byte-escape b e (eqb-false b 32 f)) escape-round))

  byte-well : well_formed (encode_byte b ++ rest) ≡ well_formed rest
  unfolding well_formed sound
  byte-well =
      by-test (is_kept b) (λ e. rw (byte-kept b e, kept-not b 37 refl e))
      (λ e.
      by-test (eqb b 32) (λ f. rw (byte-space b e (eqb-true b 32 f))) (λ f. rw (byte-escape b e (eqb-false b 32 f)) escape-well))

-- how each of the 256 bytes is written passes a test: antt computes it
abbrev PassesWritten : (ℕ → Bool) → Type 0
PassesWritten p = T (every_from (λ (b _ : ℕ). every p (encode_byte b)) 0 (replicate 256 0))

-- ---- all that is written

pub round_trip : (l : List ℕ) → Bytes l → decode (encode l) ≡ l
unfolding encode decode_after
round_trip [] h = refl
round_trip (b ∷ t) h = byte-round b (h 0) (encode t) ∙ ap (λ (r : List ℕ). b ∷ r) (round_trip t (tail-bytes b t h))

pub well-written : (l : List ℕ) → Bytes l → well_formed (encode l) ≡ true
unfolding encode well_formed
well-written [] h = refl
well-written (b ∷ t) h = byte-well b (h 0) (encode t) ∙ well-written t (tail-bytes b t h)

encode-every : (p : ℕ → Bool) → PassesWritten p → (l : List ℕ) → Bytes l → every p (encode l) ≡ true
unfolding encode every
encode-every p w [] h = refl
encode-every p w (b ∷ t) h =
    every_append p (encode_byte b) (encode t)
    ∙ rw (below (λ k. every p (encode_byte k)) 256 w b (h 0)) (encode-every p w t (tail-bytes b t h))

module _ (l : List ℕ) (h : Bytes l) where
  pub no-ampersand : lacks 38 (encode l) ≡ true
  unfolding every encode_byte hex_digit
  no-ampersand = encode-every (λ c. not (eqb c 38)) tt l h

  pub no-equals : lacks 61 (encode l) ≡ true
  unfolding every encode_byte hex_digit
  no-equals = encode-every (λ c. not (eqb c 61)) tt l h

  pub no-colon : lacks 58 (encode l) ≡ true
  unfolding every encode_byte hex_digit
  no-colon = encode-every (λ c. not (eqb c 58)) tt l h

  pub writes_bytes : every (λ c. ltb c 256) (encode l) ≡ true
  unfolding every encode_byte hex_digit
  writes_bytes = encode-every (λ c. ltb c 256) tt l h

-- ---- separators

-- a byte that can stand in no escape
pub record Separator (x : ℕ) : Type 0 where
  pub no_digit : hex_value true x ≡ None
  pub no-percent : eqb x 37 ≡ false

pub ampersand : Separator 38
unfolding hex_value
ampersand = record { no_digit = refl; no-percent = refl }

pub equals : Separator 61
unfolding hex_value
equals = record { no_digit = refl; no-percent = refl }

module _ (x : ℕ) (s : Separator x) where
  -- the byte before it begins an escape on its own or not at all
  escape-apart : (c : ℕ) (a b : List ℕ) → is_escape (c ∷ a ++ x ∷ b) ≡ is_escape (c ∷ a)
  unfolding escaped hex_value
  escape-apart c [] b = rw s.no_digit
  escape-apart c (y ∷ []) b = rw s.no_digit
  escape-apart c (y ∷ z ∷ a) b = refl

  -- a separator parts a list into two that are well formed or not by themselves
  pub well-apart : (a b : List ℕ) → well_formed (a ++ x ∷ b) ≡ (well_formed a && well_formed b)
  unfolding well_formed sound
  well-apart [] b = rw s.no-percent
  well-apart (c ∷ a) b = rw (escape-apart c a b, well-apart a b) (sym (and_assoc (sound (c ∷ a)) (well_formed a) (well_formed b)))

-- ---- the length of what is written, and of what is decoded, and a text that is empty

pub encode-length : (l : List ℕ) → length (encode l) ≤ 3 * length l
unfolding encode
encode-length [] = omega arith
encode-length (b ∷ t) = omega (arith, length-append (encode_byte b) (encode t), (byte-length b).1, encode-length t)

after-length : (k : ℕ) (l : List ℕ) → length (decode_after k l) ≤ length l
unfolding decode_after
after-length k [] = omega arith
after-length (suc k) (c ∷ t) = let r = after-length k t in omega arith
after-length zero (c ∷ t) = let r = after-length (extra (c ∷ t)) t in omega arith

pub decode-length : (l : List ℕ) → length (decode l) ≤ length l
decode-length l = after-length 0 l

-- a text that is not empty never decodes to nothing
pub decode-nil : (l : List ℕ) → decode l ≡ [] → l ≡ []
unfolding decode_after
decode-nil [] e = refl
decode-nil (c ∷ t) e = let n : suc (length (decode_after (extra (c ∷ t)) t)) ≡ 0 = ap length e in absurd (omega arith)
