-- A form that is written from fields is read back as those fields: it is well formed, and says of every name what the
-- fields say, fields with an empty value left out.
--
-- In order: one field that is written, its name and value, and that it is well formed; every field; the form.
--
-- Not here: the round trip of one name or value (form_coding, `round_trip`).
-- Assumes nothing.
use Prim.Native.Nat.{ℕ}
use mathlib.Core.Path.{◌≡◌, refl, ◌∙◌, ap}
use mathlib.Core.List.{List, [], ◌∷◌, map}
use mathlib.Core.Bool.{Bool, true, cond, not, ◌&&◌}
use lib.Dec.{eqb}
use lib.ListN.{length}
use lib.Seq.{take-append_seam, drop-append-add}
use Rattle.octets.specs.Lists.{Bytes, every, same, index_of, split_on}
use Rattle.octets.proofs.Lists.{every_append}
use Rattle.form_coding.specs.Coding.{well_formed, encode, lacks}
use Rattle.form_coding.proofs.RoundTrip.{round_trip, well-written, no-ampersand, no-equals, equals, well-apart}
use Rattle.form.specs.Content.{is_well_formed_form, piece_name, piece_value, gives, Value, missing, add, value_in, form_value}
use Rattle.form.specs.Writing.{Field, OfBytes, write_piece, join, write_form, field_value}
use Rattle.form.proofs.Pieces.{index-apart, split-join, well-join, pieces-well}
use Rattle.form.proofs.Places.{gives-value}

-- ---- one field, written as a piece

module _ (f : Field) (n : Bytes f.name) (v : Bytes f.value) where
  equals-at : index_of 61 (write_piece f) ≡ length (encode f.name)
  unfolding write_piece
  equals-at = index-apart 61 (encode f.name) (encode f.value) (no-equals f.name n)

  pub name_back : piece_name (write_piece f) ≡ f.name
  unfolding piece_name write_piece
  name_back = rw (equals-at, take-append_seam) (round_trip f.name n)

  pub value-back : piece_value (write_piece f) ≡ f.value
  unfolding piece_value write_piece
  value-back = rw (equals-at, drop-append-add) (round_trip f.value v)

  -- what the piece adds to what is said of a name
  adds-back : (m : List ℕ) (acc : Value)
      → cond (gives m (write_piece f)) (add acc (piece_value (write_piece f))) acc
      ≡ cond (not (same f.value []) && same f.name m) (add acc f.value) acc
  adds-back m acc = rw (gives-value, name_back, value-back)

  piece-lacks : lacks 38 (write_piece f) ≡ true
  unfolding write_piece every
  piece-lacks =
      every_append (λ c. not (eqb c 38)) (encode f.name) (61 ∷ encode f.value)
      ∙ rw (no-ampersand f.name n, no-ampersand f.value v)

  piece-well : well_formed (write_piece f) ≡ true
  unfolding write_piece
  piece-well = well-apart 61 equals (encode f.name) (encode f.value) ∙ rw (well-written f.name n, well-written f.value v)

-- ---- every field

every-piece : (p : List ℕ → Bool) → ((f : Field) → Bytes f.name → Bytes f.value → p (write_piece f) ≡ true)
    → (fs : List Field) → OfBytes fs → every p (map write_piece fs) ≡ true
unfolding every
every-piece p each [] b = refl
every-piece p each (f ∷ fs) (n, v, b) = rw (each f n v) (every-piece p each fs b)

all_say : (fs : List Field) → OfBytes fs → (n : List ℕ) (acc : Value) → value_in n acc (map write_piece fs) ≡ field_value n acc fs
unfolding value_in field_value
all_say [] b n acc = refl
all_say (f ∷ fs) (i, v, b) n acc =
    ap (λ (a : Value). value_in n a (map write_piece fs)) (adds-back f i v n acc)
    ∙ all_say fs b n (cond (not (same f.value []) && same f.name n) (add acc f.value) acc)

-- ---- the form

pub form-well : (fs : List Field) → OfBytes fs → is_well_formed_form (write_form fs) ≡ true
unfolding write_form
form-well fs b = pieces-well (write_form fs) ∙ well-join (map write_piece fs) ∙ every-piece well_formed piece-well fs b

-- no fields at all are written as nothing, which is one empty piece
none-back : (n : List ℕ) → form_value (write_form []) n ≡ field_value n missing []
unfolding form_value write_form join field_value value_in split_on gives index_of
none-back n = refl

pub form-back : (fs : List Field) → OfBytes fs → (n : List ℕ) → form_value (write_form fs) n ≡ field_value n missing fs
unfolding form_value write_form
form-back [] b n = none-back n
form-back (f ∷ fs) b n =
    rw (split-join (write_piece f) (map write_piece fs) (every-piece (lacks 38) piece-lacks (f ∷ fs) b)) (all_say (f ∷ fs) b n missing)
