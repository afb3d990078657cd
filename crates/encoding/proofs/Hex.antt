-- Laws of hex digits and of handles as text.
--
-- In order: a digit's round trip, for letters of either case; a lower-case digit, its
-- value and its one digit back; `hex_text`: its length, its digits and a step at an index; `unhex`: the same, and its stores;
-- the round trips; handles: `hex-valid`, `hex-exact` and what follows, that a handle has one text and a text one handle;
-- `read_handle`.
--
-- Not here: tests and runs of stores in general (octets).
-- Assumes nothing.
use Prim.Native.Nat.{ℕ, suc, ◌+◌, ◌*◌, ◌/◌, ◌%◌, ◌≤◌, ◌<◌}
use mathlib.Core.Path.{◌≡◌, refl, sym, ap, ◌∙◌}
use mathlib.Core.Bool.{Bool, true, false, not, ◌&&◌, ◌||◌, and-eq-true_iff, false≢true, and_assoc}
use mathlib.Core.List.{List, [], ◌∷◌}
use mathlib.Core.Logic.{⊎_elim}
use native.Mathlib.Numerals.{add-one}
use native.Mathlib.Omega.{arith}
use borrow.Author.Tests.{eqb-true, eq-eqb, ne_eqb}
use lib.Dec.{leb, eqb, lit≤}
use lib.ListN.{length, drop, get_or, set, drop_of_length-le}
use Rattle.std.specs.Prelude.{Some, None, unwrap_or}
use Rattle.std.specs.Bool.{then_some}
use Rattle.std.specs.Option.{is_some, option_eq}
use lib.Seq.{sets, drop-cons}
use Rattle.octets.specs.Lists.{Bytes, every, same}
use Rattle.octets.proofs.Booleans.{by-test, and_left, and_right, or_cases, implies, within-high}
use Rattle.octets.proofs.Lists.{same-eq, same-iff, tail-bytes}
use Rattle.octets.proofs.Table.{below}
use Rattle.encoding.proofs.Options.{some-is}
use Rattle.encoding.specs.Hex.{hex_value, lower_value, hex_digit, hex_text, is_lower_hex, is_handle_text, unhex, read_handle, presents}

-- ---- the value of a digit is below 16, and of any other byte 0

pub value_small : (any_case : Bool) (c : ℕ) → unwrap_or (hex_value any_case c) 0 < 16
unfolding hex_value
value_small any_case c =
    by-test (leb 48 c && leb c 57) (λ p. rw p (omega (arith, within-high 48 57 c p)))
    (λ p.
    by-test (leb 97 c && leb c 102) (λ q. rw (p, q) (omega (arith, within-high 97 102 c q)))
    (λ q.
    by-test (any_case && (leb 65 c && leb c 70))
    (λ r. rw (p, q, r) (omega (arith, within-high 65 70 c (and_right any_case (leb 65 c && leb c 70) r)))) (λ r. rw (p, q, r) (lit≤ tt))))

pub value_below : (any_case : Bool) (c x : ℕ) → hex_value any_case c ≡ Some x → x < 16
value_below any_case c x e = rw e at (value_small any_case c)

-- ---- a digit's round trip: lower-case digits are read in either mode, upper-case ones where any case counts

pub lower-round : (any_case : Bool) (n : ℕ) → n < 16 → hex_value any_case (hex_digit 97 n) ≡ Some n
unfolding hex_value hex_digit
lower-round true n h = some-is _ n (below (λ k. option_eq eqb (hex_value true (hex_digit 97 k)) (Some k)) 16 tt n h)
lower-round false n h = some-is _ n (below (λ k. option_eq eqb (hex_value false (hex_digit 97 k)) (Some k)) 16 tt n h)

pub upper-round : (n : ℕ) → n < 16 → hex_value true (hex_digit 65 n) ≡ Some n
unfolding hex_value hex_digit
upper-round n h = some-is _ n (below (λ k. option_eq eqb (hex_value true (hex_digit 65 k)) (Some k)) 16 tt n h)

-- ---- lower-case digits

lower-small : (c : ℕ) → is_lower_hex c ≡ true → c < 103
lower-small c e =
    ⊎_elim (λ d. omega (arith, within-high 48 57 c d)) (λ d. omega (arith, within-high 97 102 c d))
    (or_cases (leb 48 c && leb c 57) (leb 97 c && leb c 102) e)

-- its value has the byte as its digit again: computed for the bytes to `f`
abbrev lower_rule : ℕ → Bool
lower_rule c = eqb (hex_digit 97 (lower_value c)) c

lower-rule : (c : ℕ) → is_lower_hex c ≡ true → lower_rule c ≡ true
unfolding hex_value hex_digit
lower-rule c e = implies (is_lower_hex c) (lower_rule c) (below (λ k. not (is_lower_hex k) || lower_rule k) 103 tt c (lower-small c e)) e

pub lower-exact : (c : ℕ) → is_lower_hex c ≡ true → hex_digit 97 (lower_value c) ≡ c
lower-exact c e = eqb-true _ c (lower-rule c e)

-- the bytes that are read as digits are the lower-case ones
pub lower-is : (c : ℕ) → is_some (hex_value false c) ≡ is_lower_hex c
unfolding hex_value
lower-is c =
    by-test (leb 48 c && leb c 57) (λ e. rw e)
    (λ e. by-test (leb 97 c && leb c 102) (λ f. rw (e, f)) (λ f. rw (e, f)))

pub digit-lower : (n : ℕ) → n < 16 → is_lower_hex (hex_digit 97 n) ≡ true
unfolding hex_digit
digit-lower = below (λ k. is_lower_hex (hex_digit 97 k)) 16 tt

-- ---- bytes as text

pub hex-length : (h : List ℕ) → length (hex_text h) ≡ 2 * length h
unfolding hex_text
hex-length [] = refl
hex-length (b ∷ t) = let r = hex-length t in omega arith

pub hex-lower : (h : List ℕ) → Bytes h → every is_lower_hex (hex_text h) ≡ true
unfolding hex_text every
hex-lower [] b = refl
hex-lower (x ∷ t) b =
    let k = b 0 in
    rw (digit-lower (x / 16) (omega arith), digit-lower (x % 16) (omega arith)) (hex-lower t (tail-bytes x t b))

module _ (v : List ℕ) (i : ℕ) where
  pub hex-step : i < length v → hex_text (drop i v) ≡ hex_digit 97 (get_or v i 0 / 16) ∷ hex_digit 97 (get_or v i 0 % 16) ∷ hex_text (drop (i + 1) v)
  unfolding hex_text
  hex-step h = rw (add-one, drop-cons v i 0 h)

  pub hex-end : length v ≤ i → hex_text (drop i v) ≡ []
  unfolding hex_text
  hex-end h = rw (drop_of_length-le v h)

-- ---- a text as bytes

pub unhex-length : (t : List ℕ) → length (unhex t) ≡ length t / 2
unfolding unhex
unhex-length [] = refl
unhex-length (h ∷ []) = refl
unhex-length (h ∷ l ∷ t) = let r = unhex-length t in omega arith

pub unhex-step : (t : List ℕ) (i : ℕ) → i + 1 < length t
    → unhex (drop i t) ≡ (lower_value (get_or t i 0) * 16 + lower_value (get_or t (i + 1) 0)) ∷ unhex (drop (i + 2) t)
unfolding unhex
unhex-step t i h =
    let e : i + 2 ≡ suc (suc i) = omega arith in
    rw (e, add-one i, drop-cons t i 0 (omega arith), drop-cons t (suc i) 0 (omega arith))

pub unhex-end : (t : List ℕ) (i : ℕ) → length t ≤ i → unhex (drop i t) ≡ []
unfolding unhex
unhex-end t i h = rw (drop_of_length-le t h)

-- a byte stored, and then the bytes of the digits behind: the bytes of all
pub unhex-store : (b t : List ℕ) (i : ℕ) → i * 2 + 1 < length t
    → sets (set b i (lower_value (get_or t (i * 2) 0) * 16 + lower_value (get_or t (i * 2 + 1) 0))) (i + 1) (unhex (drop ((i + 1) * 2) t))
    ≡ sets b i (unhex (drop (i * 2) t))
unhex-store b t i h =
    let next : (i + 1) * 2 ≡ i * 2 + 2 = omega arith in
    rw (unhex-step t (i * 2) h, next, add-one i)

-- the digits from a pair on are lower-case ones where those of the pair are and those behind it
pub lower-step : (t : List ℕ) (i : ℕ) → i * 2 + 1 < length t
    → every is_lower_hex (drop (i * 2) t)
    ≡ ((is_lower_hex (get_or t (i * 2) 0) && is_lower_hex (get_or t (i * 2 + 1) 0)) && every is_lower_hex (drop ((i + 1) * 2) t))
unfolding every
lower-step t i h =
    let e : i * 2 + 1 ≡ suc (i * 2) = omega arith in
    let next : (i + 1) * 2 ≡ suc (suc (i * 2)) = omega arith in
    rw (e, next, drop-cons t (i * 2) 0 (omega arith), drop-cons t (suc (i * 2)) 0 (omega arith))
    (sym (and_assoc (is_lower_hex (get_or t (i * 2) 0)) (is_lower_hex (get_or t (suc (i * 2)) 0)) (every is_lower_hex (drop (suc (suc (i * 2))) t))))

pub lower-end : (t : List ℕ) (i : ℕ) → length t ≤ i → every is_lower_hex (drop i t) ≡ true
unfolding every
lower-end t i h = rw (drop_of_length-le t h)

-- ---- round trips

pub hex-round : (h : List ℕ) → Bytes h → unhex (hex_text h) ≡ h
unfolding hex_text unhex
hex-round [] b = refl
hex-round (x ∷ t) b =
    let k = b 0 in
    let e : x / 16 * 16 + x % 16 ≡ x = omega arith in
    rw (lower-round false (x / 16) (omega arith), lower-round false (x % 16) (omega arith), e, hex-round t (tail-bytes x t b))

-- a text of lower-case digits in pairs is the text of its bytes, and of no others
pub pairs-exact : (t : List ℕ) → length t % 2 ≡ 0 → every is_lower_hex t ≡ true → hex_text (unhex t) ≡ t
unfolding hex_text unhex every
pairs-exact [] n e = refl
pairs-exact (h ∷ []) n e = absurd (omega arith)
pairs-exact (h ∷ l ∷ t) n e =
    let d = (and-eq-true_iff (is_lower_hex h) (is_lower_hex l && every is_lower_hex t)).0 e in
    let r = (and-eq-true_iff (is_lower_hex l) (every is_lower_hex t)).0 d.1 in
    let x : ℕ = lower_value h in
    let y : ℕ = lower_value l in
    let q : y < 16 = value_small false l in
    let high : (x * 16 + y) / 16 ≡ x = omega arith in
    let low : (x * 16 + y) % 16 ≡ y = omega arith in
    rw (high, low, lower-exact h d.0, lower-exact l r.0, pairs-exact t (omega arith) r.1)

-- ---- handles

pub sized-handle : (t : List ℕ) → length t ≡ 40 → is_handle_text t ≡ every is_lower_hex t
unfolding is_handle_text
sized-handle t n = rw (eq-eqb (length t) 40 n)

pub other-size : (t : List ℕ) → (length t ≡ 40 → ⊥) → is_handle_text t ≡ false
unfolding is_handle_text
other-size t n = rw (ne_eqb (length t) 40 n)

module _ (t : List ℕ) (e : is_handle_text t ≡ true) where
  pub handle-size : length t ≡ 40
  unfolding is_handle_text
  handle-size = eqb-true (length t) 40 (and_left (eqb (length t) 40) (every is_lower_hex t) e)

  pub handle-lower : every is_lower_hex t ≡ true
  unfolding is_handle_text
  handle-lower = and_right (eqb (length t) 40) (every is_lower_hex t) e

  -- a handle has one text only
  pub hex-exact : hex_text (unhex t) ≡ t
  hex-exact = let n = handle-size in pairs-exact t (omega arith) handle-lower

  pub unhex-twenty : length (unhex t) ≡ 20
  unhex-twenty = let n = handle-size in omega (arith, unhex-length t)

-- the text of 20 bytes is a handle's
pub hex-valid : (h : List ℕ) → length h ≡ 20 → Bytes h → is_handle_text (hex_text h) ≡ true
unfolding is_handle_text
hex-valid h n b = rw (hex-lower h b, eq-eqb (length (hex_text h)) 40 (omega (arith, hex-length h)))

pub read-valid : (t : List ℕ) → is_handle_text t ≡ true → read_handle t ≡ Some (unhex t)
unfolding read_handle
read-valid t e = rw e

pub read-invalid : (t : List ℕ) → is_handle_text t ≡ false → read_handle t ≡ None
unfolding read_handle
read-invalid t e = rw e

-- of 40 bytes the digits decide
pub read-sized : (t : List ℕ) → length t ≡ 40 → then_some (every is_lower_hex t) (unhex t) ≡ read_handle t
unfolding read_handle
read-sized t n = rw (sized-handle t n) (by-test (every is_lower_hex t) (λ e. rw e) (λ e. rw e))

-- reading what was written
pub handle-round : (h : List ℕ) → length h ≡ 20 → Bytes h → read_handle (hex_text h) ≡ Some h
handle-round h n b = read-valid (hex_text h) (hex-valid h n b) ∙ rw (hex-round h b)

-- a text presents a handle exactly when it is the handle's own
pub same-handle : (t h : List ℕ) → length h ≡ 20 → Bytes h → same t (hex_text h) ≡ presents (read_handle t) h
same-handle t h n b = by-test (is_handle_text t) valid other
  where
    valid : is_handle_text t ≡ true → same t (hex_text h) ≡ presents (read_handle t) h
    valid e = rw (read-valid t e) (same-iff t (hex_text h) (unhex t) h (λ p. ap unhex p ∙ hex-round h b) (λ p. sym (hex-exact t e) ∙ ap hex_text p))

    other : is_handle_text t ≡ false → same t (hex_text h) ≡ presents (read_handle t) h
    other e =
        rw (read-invalid t e)
        (by-test (same t (hex_text h)) (λ p. absurd (false≢true (sym e ∙ ap is_handle_text (same-eq t (hex_text h) p) ∙ hex-valid h n b))) (λ p. p))
