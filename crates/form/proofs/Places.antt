-- The places that the reader finds say what the form's pieces say of each known name.
--
-- In order: a value is empty before it is decoded exactly where it is after; a value stands in the form where its
-- place says; one piece entered, seen at one place; where the names stand in the whole form; the reader's answer.
-- Assumes nothing.
use Prim.Native.Nat.{ℕ, ◌+◌, ◌-◌, ◌<◌, ◌≤◌}
use mathlib.Core.Path.{◌≡◌, refl, sym, ◌∙◌, ap}
use mathlib.Core.List.{List, [], ◌∷◌}
use mathlib.Core.Bool.{Bool, true, false, cond, not, ◌&&◌}
use native.Mathlib.Omega.{arith}
use borrow.Author.Tests.{ltb-true, ltb-false, leb-true}
use Rattle.std.specs.Prelude.{Option, Some, None}
use lib.Dec.{ltb}
use lib.ListN.{get_or, length, drop, get_or-replicate, drop_of_length-le}
use lib.Seq.{drop-cons, drop-drop}
use Rattle.octets.specs.Lists.{part, same, index_of}
use Rattle.octets.proofs.Booleans.{and-false}
use Rattle.octets.proofs.Lists.{drop-take}
use Rattle.form_coding.specs.Coding.{decode, decode_after}
use Rattle.form.specs.declared.Count.{Count}
use Rattle.form.specs.declared.Count.TheVariants.{Missing, Once, Repeated}
use Rattle.form.specs.declared.Place.{Place}
use Rattle.form.specs.Content.{pieces, is_well_formed_form, piece_name, piece_value, gives, Value, once, add, value_in, form_value, is_repeated}
use Rattle.form.specs.Places.{place_count, unseen, all_unseen, one_more, seen_again, enter, places_of, read_of, view_as, view_of, Within, StandsAt, Stands, distinct, Says}
use Rattle.octets.proofs.Searches.{any-agree}
use Rattle.form.proofs.Pieces.{First}
use Rattle.form.proofs.Names.{rank_is, rank-not}
use Rattle.form.proofs.Entering.{enter-place, kept, length-places}

-- ---- a value that is empty

-- no text but the empty one decodes to nothing
decode-empty : (l : List ℕ) (n : ℕ) → not (same (decode (drop n l)) []) ≡ ltb n (length l)
unfolding same decode_after
decode-empty l n = by (ltb n (length l)) refl
  where
    by : (b : Bool) → ltb n (length l) ≡ b → not (same (decode (drop n l)) []) ≡ b
    by true e = rw (drop-cons l n 0 (ltb-true n (length l) e))
    by false e = rw (drop_of_length-le l (ltb-false n (length l) e))

pub gives-value : (n p : List ℕ) → gives n p ≡ (not (same (piece_value p) []) && same (piece_name p) n)
unfolding gives piece_value
gives-value n p = ap (λ (b : Bool). b && same (piece_name p) n) (sym (decode-empty p (index_of 61 p + 1)))

-- ---- a value at its place

-- where a piece stands at `at`, what is left of it past i bytes stands i bytes further
value-stands : (s : List ℕ) (at : ℕ) (p : List ℕ) → p ≡ part s at (length p) → (i a : ℕ) → i ≤ length p → a ≡ at + i
    → part s a (at + length p - a) ≡ drop i p
value-stands s at p stands i a h f =
    let e : at + length p - a ≡ length p - i = omega arith in
    rw (e, f) (sym (ap (drop i) stands ∙ drop-take (drop at s) (length p) i ∙ rw drop-drop))

-- one more value of a name, at its place
view-again : (s : List ℕ) (q : Place) (a e : ℕ) (v : List ℕ) → decode (part s a (e - a)) ≡ v → view_of s (seen_again q a e) ≡ add (view_of s q) v
unfolding view_as seen_again add
view-again s q a e v f = by q.count
  where
    by : (c : Count) → view_as (part s a (e - a)) (one_more c) ≡ add (view_as (part s q.start (q.end - q.start)) c) v
    by Missing = ap once f
    by Once = refl
    by Repeated = refl

-- ---- the names in the whole form

module _ (names : List (List ℕ)) (s : List ℕ) (d : distinct names ≡ true) (few : length names ≤ place_count) where
  -- what the place of name k says, with the pieces to come, is what the form says
  Seen : ℕ → List Place → List (List ℕ) → Type 0
  Seen k ps rest =
      Within s (get_or ps k unseen) × (value_in (get_or names k []) (view_of s (get_or ps k unseen)) rest ≡ form_value s (get_or names k []))

  module _ (k : ℕ) (h : k < length names) where
    seen_step : (ps : List Place) (at : ℕ) (p : List ℕ) (rest : List (List ℕ)) → length ps ≡ place_count → First s at p rest
        → Seen k ps (p ∷ rest) → Seen k (enter names ps at p) rest
    unfolding Seen value_in gives piece_value seen_again
    seen_step ps at p rest hp first (w, v) =
        rw (enter-place names ps at p k (omega arith) hp, rank_is names d (piece_name p) k h)
        (by (ltb (i + 1) (length p)) refl (same (piece_name p) (get_or names k [])) v)
      where
        i : ℕ
        i = index_of 61 p

        q : Place
        q = get_or ps k unseen

        by : (x : Bool) → ltb (i + 1) (length p) ≡ x → (y : Bool)
            → value_in (get_or names k []) (cond (x && y) (add (view_of s q) (decode (drop (i + 1) p))) (view_of s q)) rest ≡ form_value s (get_or names k [])
            → Within s (cond (x && y) (seen_again q (at + i + 1) (at + length p)) q)
            × (value_in (get_or names k []) (view_of s (cond (x && y) (seen_again q (at + i + 1) (at + length p)) q)) rest ≡ form_value s (get_or names k []))
        by true e true v =
            let h = ltb-true (i + 1) (length p) e in
            let value = ap decode (value-stands s at p first.stands (i + 1) (at + i + 1) (omega arith) (omega arith)) in (
              (omega arith, omega arith),
              ap (λ (u : Value). value_in (get_or names k []) u rest) (view-again s q (at + i + 1) (at + length p) (decode (drop (i + 1) p)) value) ∙ v,
            )
        by true e false v = (w, v)
        by false e y v = (w, v)

    seen : Seen k (places_of names s) []
    unfolding Seen all_unseen form_value view_as
    seen = kept names s (Seen k) seen_step (rw (get_or-replicate place_count k unseen unseen (omega arith)) ((omega arith, omega arith), refl))

    stands_at : StandsAt s (get_or names k []) (get_or (places_of names s) k unseen)
    unfolding Seen value_in
    stands_at = record { within = seen.0; value = seen.1 }

  -- a place past the names
  spare-unseen : (k : ℕ) → length names ≤ k → k < place_count → get_or (places_of names s) k unseen ≡ unseen
  unfolding all_unseen
  spare-unseen k h hk =
      kept names s (λ ps _. get_or ps k unseen ≡ unseen)
      (λ ps at p _ l _ old.
      enter-place names ps at p k hk l ∙ rw (rank-not (piece_name p) names k h, and-false) old)
      (get_or-replicate place_count k unseen unseen hk)

  all-stand : is_well_formed_form s ≡ true → Stands names s (places_of names s)
  unfolding is_repeated view_as
  all-stand formed =
      let l = length-places names s in
      record {
        formed = formed;
        at = stands_at;
        repeats =
            any-agree (λ p. is_repeated (view_of s p)) (λ n. is_repeated (form_value s n)) unseen [] (places_of names s) names (omega arith)
            (λ k h. ap is_repeated (stands_at k h).value)
            (λ k h m. rw (spare-unseen k h (omega arith)));
      }

-- ---- the reader's answer

module _ (text s : List ℕ) where
  pub read-malformed : is_well_formed_form s ≡ false → read_of (pieces text) s ≡ None
  unfolding read_of
  read-malformed e = rw e

  pub read-well-formed : is_well_formed_form s ≡ true → read_of (pieces text) s ≡ Some (places_of (pieces text) s)
  unfolding read_of
  read-well-formed e = rw e

  says : Says text s (read_of (pieces text) s)
  says = by (is_well_formed_form s) refl
    where
      by : (b : Bool) → is_well_formed_form s ≡ b → Says text s (read_of (pieces text) s)
      by true e =
          rw (read-well-formed e)
          (record {
            malformed = λ f. absurd (cc);
            stands = λ places f names k.
                let g : places ≡ places_of (pieces text) s = cc in
                rw (g, k.parted) (all-stand names s k.apart (leb-true (length names) place_count k.few) e);
          })
      by false e = rw (read-malformed e) (record { malformed = λ f. e; stands = λ places f. absurd (cc) })

  -- an answer that has the definition's positions has its content
  pub says_of : (r : Option (List Place)) → r ≡ read_of (pieces text) s → Says text s r
  says_of r e = rw e says
