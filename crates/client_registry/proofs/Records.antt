-- Laws of a record, and of the records of a registry.
--
-- In order: the size of a record; what a sound record gives; the records, one after the other; a sound record where it lies
-- in the registry; equal ids.
--
-- Not here: a field by itself (`Fields`); the record of each client (`Lookup`); what a fit registry gives (`Fit`, `Clients`).
-- Assumes nothing.
use mathlib.Core.Path.{◌≡◌, refl, sym, ap, ◌∙◌}
use mathlib.Core.Bool.{Bool, true, false, cond, not, ◌&&◌, ◌||◌}
use mathlib.Core.List.{List, [], ◌∷◌}
use mathlib.Core.Logic.{◌⊎◌, inl, inr, ⊎_elim}
use Prim.Native.Nat.{ℕ, zero, suc, ◌+◌, ◌-◌, ◌≤◌, ◌<◌}
use Rattle.std.specs.Prelude.{min}
use Rattle.std.proofs.lemmas.List.{take_min, drop_min}
use native.Mathlib.Nat.{add-zero}
use native.Mathlib.Omega.{arith}
use borrow.Author.Tests.{eqb-true, eqb-false, not-true}
use lib.Dec.{eqb, lit≤}
use lib.ListN.{length, take, drop, get_or, length-take, length-drop}
use lib.Seq.{get_or-take, get_or-drop}
use Rattle.octets.specs.Lists.{part, Bytes, same}
use Rattle.octets.proofs.Booleans.{and_left, and_right, and-three}
use Rattle.octets.proofs.Lists.{nil-bytes, tail-bytes, take-bytes}
use Rattle.client_registry.specs.Layout.{public_kind, confidential_kind, id_room, redirect_room, secret_room, at_id, at_redirect, at_scope, at_secret, public_size, confidential_size}
use Rattle.client_registry.specs.Registry.{sound_id, sound_redirect, sound_secret, sound_field, field_text, sound_common, sound_public, sound_confidential, sound_record, record_size, records_behind, records}
use Rattle.client_registry.specs.Lookup.{record_at, next_of}
use Rattle.client_registry.proofs.Fields.{Field, sound-field, same-field}

-- ---- the size of a record

pub size-least : (k : ℕ) → 1 ≤ record_size k
unfolding record_size
size-least k = by (eqb k public_kind) (eqb k confidential_kind)
  where
    by : (p q : Bool) → 1 ≤ cond p public_size (cond q confidential_size 1)
    by true q = lit≤ tt
    by false true = lit≤ tt
    by false false = lit≤ tt

-- ---- what a sound record gives

-- the parts that every record has
pub record Common (r : List ℕ) : Type 0 where
  pub id : Field sound_id r at_id id_room
  pub redirect : Field sound_redirect r at_redirect redirect_room
  pub scope : get_or r at_scope 0 ≡ 0 → ⊥

sound-common : (r : List ℕ) → sound_common r ≡ true → Common r
unfolding sound_common
sound-common r e =
    let s = eqb (get_or r at_scope 0) 0 in
    let h = and-three (sound_field sound_id r at_id id_room) (sound_field sound_redirect r at_redirect redirect_room) (not s) e in
    record {
      id = sound-field sound_id r at_id id_room h.0;
      redirect = sound-field sound_redirect r at_redirect redirect_room h.1;
      scope = eqb-false (get_or r at_scope 0) 0 (not-true s h.2);
    }

pub record Public (r : List ℕ) : Type 0 where
  pub kind : get_or r 0 0 ≡ public_kind
  pub size : length r ≡ public_size
  pub common : Common r

sound-public : (r : List ℕ) → sound_public r ≡ true → Public r
unfolding sound_public
sound-public r e =
    let h = and-three (eqb (get_or r 0 0) public_kind) (eqb (length r) public_size) (sound_common r) e in
    record { kind = eqb-true (get_or r 0 0) public_kind h.0; size = eqb-true (length r) public_size h.1; common = sound-common r h.2 }

pub record Confidential (r : List ℕ) : Type 0 where
  pub kind : get_or r 0 0 ≡ confidential_kind
  pub size : length r ≡ confidential_size
  pub common : Common r
  pub secret : Field sound_secret r at_secret secret_room

sound-confidential : (r : List ℕ) → sound_confidential r ≡ true → Confidential r
unfolding sound_confidential
sound-confidential r e =
    let k = eqb (get_or r 0 0) confidential_kind in
    let n = eqb (length r) confidential_size in
    let s = sound_field sound_secret r at_secret secret_room in
    let h = and-three k n (sound_common r) (and_left (k && n && sound_common r) s e) in
    record {
      kind = eqb-true (get_or r 0 0) confidential_kind h.0;
      size = eqb-true (length r) confidential_size h.1;
      common = sound-common r h.2;
      secret = sound-field sound_secret r at_secret secret_room (and_right (k && n && sound_common r) s e);
    }

-- a sound record is of one kind or the other
pub sound-kinds : (r : List ℕ) → sound_record r ≡ true → Public r ⊎ Confidential r
unfolding sound_record
sound-kinds r e = by (sound_public r) (sound-public r) (sound_confidential r) (sound-confidential r) e
  where
    by : (p : Bool) → (p ≡ true → Public r) → (q : Bool) → (q ≡ true → Confidential r) → (p || q) ≡ true → Public r ⊎ Confidential r
    by true f q g e = inl (f refl)
    by false f q g e = inr (g e)

module _ (r : List ℕ) (sound : sound_record r ≡ true) where
  pub sound-parts : Common r
  sound-parts = ⊎_elim (λ p. p.common) (λ c. c.common) (sound-kinds r sound)

  pub sound-least : public_size ≤ length r
  sound-least = ⊎_elim (λ (p : Public r). omega arith) (λ (c : Confidential r). omega arith) (sound-kinds r sound)

  -- it is as long as its kind says
  pub sound-size : length r ≡ record_size (get_or r 0 0)
  unfolding record_size
  sound-size =
      ⊎_elim
      (λ (p : Public r). p.size ∙ sym (ap record_size p.kind))
      (λ (c : Confidential r). c.size ∙ sym (ap record_size c.kind))
      (sound-kinds r sound)

-- ---- the records, one after the other

records-behind : (n : ℕ) (l : List ℕ) → records_behind n l ≡ records (drop n l)
unfolding records_behind
records-behind zero l = refl
records-behind (suc n) [] = refl
records-behind (suc n) (k ∷ t) = records-behind n t

pub records-nil : records [] ≡ []
unfolding records_behind
records-nil = refl

pub no-records : (b : List ℕ) → length b ≡ 0 → records b ≡ []
no-records [] h = records-nil
no-records (k ∷ t) h = absurd (omega arith)

pub records-cons : (k : ℕ) (t : List ℕ) → records (k ∷ t) ≡ take (record_size k) (k ∷ t) ∷ records (drop (record_size k) (k ∷ t))
unfolding records_behind
records-cons k t =
    let e : suc (record_size k - 1) ≡ record_size k = omega (arith, size-least k) in
    ap (λ (l : List (List ℕ)). take (record_size k) (k ∷ t) ∷ l) (records-behind (record_size k - 1) t ∙ ap (λ (n : ℕ). records (drop n (k ∷ t))) e)

-- the first record, which is what is left where that is less than its kind says
pub first-record : (b : List ℕ) → 0 < length b → let n = min (record_size (get_or b 0 0)) (length b) in records b ≡ take n b ∷ records (drop n b)
first-record [] h = absurd (omega arith)
first-record (k ∷ t) h = rw (take_min (record_size k) (k ∷ t), drop_min (record_size k) (k ∷ t)) (records-cons k t)

-- the records of bytes are bytes
pub records-bytes : (n : ℕ) (l : List ℕ) → Bytes l → (i : ℕ) → Bytes (get_or (records_behind n l) i [])
unfolding records_behind
records-bytes n [] h i = nil-bytes
records-bytes zero (k ∷ t) h zero = take-bytes (record_size k) (k ∷ t) h
records-bytes zero (k ∷ t) h (suc i) = records-bytes (record_size k - 1) t (tail-bytes k t h) i
records-bytes (suc n) (k ∷ t) h i = records-bytes n t (tail-bytes k t h) i

-- ---- a sound record where it lies

module _ (b : List ℕ) (at : ℕ) where
  record-kind : get_or (record_at b at) 0 0 ≡ get_or b at 0
  record-kind = get_or-take (record_size (get_or b at 0)) (drop at b) 0 0 (size-least (get_or b at 0)) ∙ rw (get_or-drop, add-zero)

  module _ (sound : sound_record (record_at b at) ≡ true) where
    -- it is as long as its kind says, within the bytes
    pub size-here : length (record_at b at) ≡ record_size (get_or b at 0)
    size-here = sound-size (record_at b at) sound ∙ ap record_size record-kind

    pub record-fits : next_of b at ≤ length b
    record-fits =
        let n = record_size (get_or b at 0) in
        omega (arith, size-here, length-take n (drop at b), length-drop at b, size-least (get_or b at 0))

-- the id fields of two sound records are equal exactly where the ids are
pub same-ids : (r s : List ℕ) → sound_record r ≡ true → sound_record s ≡ true
    → same (part r at_id (1 + id_room)) (part s at_id (1 + id_room)) ≡ same (field_text r at_id) (field_text s at_id)
same-ids r s h h' =
    same-field sound_id r s at_id at_id id_room (omega (arith, sound-least r h)) (omega (arith, sound-least s h'))
    (sound-parts r h).id (sound-parts s h').id
