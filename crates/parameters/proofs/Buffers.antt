-- What a buffer holds at its front, once a text was decoded into it, and how long a form's value is.
--
-- In order: a text that is decoded into a buffer of any size; how long a value of a form is, and one in a buffer of 4,096 bytes.
--
-- Not here: where a form's values stand (`form`, `Answers`).
-- Assumes nothing.
use mathlib.Core.Path.{◌≡◌, sym, ap, ◌∙◌}
use mathlib.Core.List.{List}
use Prim.Native.Nat.{ℕ, ◌-◌, ◌≤◌}
use native.Mathlib.Omega.{arith}
use lib.ListN.{length, take, replicate, length-take, length-drop, length-replicate}
use lib.Seq.{sets, length-sets}
use Rattle.octets.specs.Lists.{part}
use Rattle.octets.proofs.Stores.{part-sets-same}
use Rattle.form_coding.specs.Coding.{decode}
use Rattle.form_coding.proofs.RoundTrip.{decode-length}
use Rattle.form.specs.Places.{view_as, view_of}
use Rattle.form.specs.declared.Count.{Count}
use Rattle.form.specs.declared.Count.TheVariants.{Missing, Once, Repeated}
use Rattle.protocol.specs.Limits.{most_form}
use Rattle.form.specs.declared.Place.{Place}
use Rattle.form.specs.Content.{only_value}

-- ---- a text that is decoded

-- what was stored at the front of the buffer l
pub front_stored : (l v m : List ℕ) (n : ℕ) → m ≡ sets l 0 v → n ≡ length v → length v ≤ length l → take n m ≡ v
front_stored l v m n stored count fits = rw (count, stored) (part-sets-same l 0 v (omega arith))

-- a text is no longer once it is decoded
pub front_decoded : (l v m : List ℕ) (n : ℕ) → m ≡ sets l 0 (decode v) → n ≡ length (decode v) → length v ≤ length l → take n m ≡ decode v
front_decoded l v m n stored count fits = front_stored l (decode v) m n stored count (omega (arith, decode-length v))

pub ruleset decoded = (front_decoded, decode-length)

-- ---- a value of a form

-- a value is no longer than its form
pub value-length : (s : List ℕ) (p : Place) → length (only_value (view_of s p)) ≤ length s
unfolding view_as only_value
value-length s p = by p.count
  where
    v : List ℕ
    v = part s p.start (p.end - p.start)

    short : length v ≤ length s
    short = simp (length-take, length-drop) (omega arith)

    by : (c : Count) → length (only_value (view_as v c)) ≤ length s
    by Missing = omega arith
    by Once = omega (arith, decode-length v, short)
    by Repeated = omega arith

-- the first n bytes of the buffer m are v
pub record Front (m : List ℕ) (n : ℕ) (v : List ℕ) : Type 0 where
  pub fits : n ≤ length m
  pub count : n ≡ length (take n m)
  pub text : take n m ≡ v
  pub size : n ≡ length v

pub front : (l v m : List ℕ) (n : ℕ) → length v ≤ length l → n ≡ length v → m ≡ sets l 0 v → Front m n v
front l v m n fits count stored =
    let text : take n m ≡ v = rw (count, stored) (part-sets-same l 0 v (omega arith)) in
    record { fits = omega (arith, ap length stored ∙ length-sets l 0 v); count = count ∙ sym (ap length text); text = text; size = count }

-- the value at a place, decoded into a buffer of 4,096 bytes
pub front-value : (s : List ℕ) (p : Place) → length s ≤ most_form → (m : List ℕ) (n : ℕ) → n ≡ length (only_value (view_of s p))
    → m ≡ sets (replicate most_form 0) 0 (only_value (view_of s p)) → Front m n (only_value (view_of s p))
front-value s p short m n count stored =
    let zeros : List ℕ = replicate most_form 0 in
    let size : length zeros ≡ most_form = length-replicate {A = ℕ} most_form 0 in
    front zeros (only_value (view_of s p)) m n (omega (arith, value-length s p, size)) count stored
