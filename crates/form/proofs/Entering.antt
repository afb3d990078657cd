-- Laws of `enter`, `enter_all` and `read_of`: how a piece is entered, and one turn of the reader after the other.
--
-- In order: a piece entered, by cases, and one place after it; all pieces that remain at a cursor, one less or none;
-- what each entry keeps, the reader keeps.
-- Assumes nothing.
use Prim.Native.Nat.{ℕ, ◌+◌, ◌-◌, ◌<◌, ◌≤◌}
use mathlib.Core.Path.{◌≡◌, refl, sym, ◌∙◌}
use mathlib.Core.List.{List, [], ◌∷◌}
use mathlib.Core.Bool.{Bool, true, false, cond, ◌&&◌}
use native.Mathlib.Omega.{arith}
use borrow.Author.Tests.{lt-ltb, le-ltb, ltb-false, eqb-true, eqb-false}
use Rattle.std.specs.Prelude.{Option, Some, None}
use lib.Dec.{ltb, eqb, leb-zero}
use lib.ListN.{get_or, length, take, set, length-set}
use lib.Seq.{get_or-set_same, get_or-set_other, length-take-le}
use Rattle.octets.specs.Lists.{part, index_of}
use Rattle.octets.proofs.Lists.{length_part}
use Rattle.octets.proofs.Pieces.{index-le, remaining, remaining-end}
use Rattle.form_coding.specs.Coding.{decode}
use Rattle.form.specs.declared.Span.{Span}
use Rattle.form.specs.declared.Cursor.{Cursor}
use Rattle.form.specs.declared.Place.{Place}
use Rattle.form.specs.Content.{pieces, piece_name}
use Rattle.form.specs.Places.{place_count, unseen, all_unseen, rank, seen_again, enter_at, enter, enter_all, places_of}
use Rattle.form.proofs.Pieces.{First, first}
use Rattle.form.proofs.Names.{is_rank}
use Rattle.form.proofs.Steps.{Told}

-- ---- a piece, by cases

-- what entering a piece p that stands from `at` up to end, with its first = at n, comes to
pub record Entered (names : List (List ℕ)) (ps : List Place) (at end n : ℕ) (p : List ℕ) : Type 0 where
  pub within : at + n ≤ end
  pub named : length (take n p) ≡ n
  pub empty : length p ≤ n + 1 → enter names ps at p ≡ ps
  pub full : n + 1 < length p → enter names ps at p ≡ enter_at (rank (decode (take n p)) names) ps (at + n + 1) end

pub entered : (names : List (List ℕ)) (ps : List Place) (s : List ℕ) (at end n : ℕ) → (at ≤ end) × (end ≤ length s)
    → n ≡ index_of 61 (part s at (end - at)) → Entered names ps at end n (part s at (end - at))
unfolding enter piece_name
entered names ps s at end n (forward, fits) e = by (part s at (end - at)) (omega (arith, length_part s at (end - at) (omega arith))) e
  where
    by : (p : List ℕ) → at + length p ≡ end → n ≡ index_of 61 p → Entered names ps at end n p
    by p to_end e =
        let l = index-le 61 p in
        record {
          within = omega arith;
          named = length-take-le n p (omega arith);
          empty = λ h. rw (← e, le-ltb (n + 1) (length p) h);
          full = λ h. rw (← e, lt-ltb (n + 1) (length p) h, to_end);
        }

pub known-at : (k : ℕ) (ps : List Place) (a e : ℕ) → k < place_count → enter_at (Some k) ps a e ≡ set ps k (seen_again (get_or ps k unseen) a e)
unfolding enter_at
known-at k ps a e h = rw (lt-ltb k place_count h)

pub past-places : (k : ℕ) (ps : List Place) (a e : ℕ) → place_count ≤ k → enter_at (Some k) ps a e ≡ ps
unfolding enter_at
past-places k ps a e h = rw (le-ltb k place_count h)

module _ (ps : List Place) (a e : ℕ) where
  length-at : (r : Option ℕ) → length (enter_at r ps a e) ≡ length ps
  unfolding enter_at
  length-at None = refl
  length-at (Some k) = by (ltb k place_count)
    where
      by : (b : Bool) → length (cond b (set ps k (seen_again (get_or ps k unseen) a e)) ps) ≡ length ps
      by true = length-set ps k (seen_again (get_or ps k unseen) a e)
      by false = refl

  -- one place after a value of a name: it is seen again where the name ranks there
  place-at : (k : ℕ) → k < place_count → length ps ≡ place_count → (r : Option ℕ)
      → get_or (enter_at r ps a e) k unseen ≡ cond (is_rank k r) (seen_again (get_or ps k unseen) a e) (get_or ps k unseen)
  unfolding enter_at
  place-at k hk hp None = refl
  place-at k hk hp (Some j) = by (ltb j place_count) refl (eqb j k) refl
    where
      again : ℕ → Place
      again i = seen_again (get_or ps i unseen) a e

      by : (y : Bool) → ltb j place_count ≡ y → (z : Bool) → eqb j k ≡ z
          → get_or (cond y (set ps j (again j)) ps) k unseen ≡ cond z (again k) (get_or ps k unseen)
      by true f true g = let l : k < length ps = omega arith in rw (eqb-true j k g) (get_or-set_same ps k (again k) unseen l)
      by true f false g = get_or-set_other ps j k (again j) unseen (λ h. eqb-false j k g (sym h))
      by false f true g = absurd (omega (arith, ltb-false j place_count f, eqb-true j k g))
      by false f false g = refl

module _ (names : List (List ℕ)) (ps : List Place) (at : ℕ) (p : List ℕ) where
  -- the place k with the piece's value
  abbrev again : ℕ → Place
  again k = seen_again (get_or ps k unseen) (at + index_of 61 p + 1) (at + length p)

  pub length-enter : length (enter names ps at p) ≡ length ps
  unfolding enter
  length-enter =
      by (ltb (index_of 61 p + 1) (length p)) _ (length-at ps (at + index_of 61 p + 1) (at + length p) (rank (piece_name p) names))
    where
      by : (b : Bool) (qs : List Place) → length qs ≡ length ps → length (cond b qs ps) ≡ length ps
      by true qs e = e
      by false qs e = refl

  -- one place after a piece: it is seen again where the piece has a value and a name that ranks there
  pub enter-place : (k : ℕ) → k < place_count → length ps ≡ place_count
      → get_or (enter names ps at p) k unseen
      ≡ cond (ltb (index_of 61 p + 1) (length p) && is_rank k (rank (piece_name p) names)) (again k) (get_or ps k unseen)
  unfolding enter
  enter-place k hk hp =
      by (ltb (index_of 61 p + 1) (length p)) _ _ (place-at ps (at + index_of 61 p + 1) (at + length p) k hk hp (rank (piece_name p) names))
    where
      by : (b : Bool) (qs : List Place) (z : Bool) → get_or qs k unseen ≡ cond z (again k) (get_or ps k unseen)
          → get_or (cond b qs ps) k unseen ≡ cond (b && z) (again k) (get_or ps k unseen)
      by true qs z e = e
      by false qs z e = refl

-- ---- the pieces that remain

enter-cons : (names : List (List ℕ)) (ps : List Place) (at : ℕ) (p : List ℕ) (rest : List (List ℕ))
    → enter_all names ps at (p ∷ rest) ≡ enter_all names (enter names ps at p) (at + length p + 1) rest
unfolding enter_all
enter-cons names ps at p rest = refl

module _ (names : List (List ℕ)) (ps : List Place) (s : List ℕ) (at : ℕ) where
  pub enter-end : length s < at → enter_all names ps at (remaining 38 s at) ≡ ps
  unfolding enter_all
  enter-end h = rw (remaining-end 38 s at h)

  pub enter_step : (p : Span) (m : Cursor) → Told s at p m
      → enter_all names (enter names ps p.start (part s p.start (p.end - p.start))) m.at (remaining 38 s m.at)
      ≡ enter_all names ps at (remaining 38 s at)
  enter_step p m t =
      let l = length_part s p.start (p.end - p.start) (omega arith) in
      let next : at + length (part s p.start (p.end - p.start)) + 1 ≡ m.at = omega arith in
      rw (t.first, enter-cons, next, t.begins)

-- ---- what each entry keeps, of the places and the pieces still to come, the reader keeps

module _ (names : List (List ℕ)) (s : List ℕ) (P : List Place → List (List ℕ) → Type 0)
    (keeps : (ps : List Place) (at : ℕ) (p : List ℕ) (rest : List (List ℕ)) → length ps ≡ place_count → First s at p rest
    → P ps (p ∷ rest) → P (enter names ps at p) rest) where
  kept_from : (ts : List (List ℕ)) (ps : List Place) (at : ℕ) → remaining 38 s at ≡ ts → length ps ≡ place_count → P ps ts
      → P (enter_all names ps at ts) []
  unfolding enter_all
  kept_from [] ps at e l h = h
  kept_from (p ∷ rest) ps at e l h =
      let f = first s at p rest e in
      kept_from rest (enter names ps at p) (at + length p + 1) f.more (length-enter names ps at p ∙ l) (keeps ps at p rest l f h)

  pub kept : P all_unseen (pieces s) → P (places_of names s) []
  unfolding places_of all_unseen
  kept h = kept_from (pieces s) all_unseen 0 (rw leb-zero refl) refl h

pub length-places : (names : List (List ℕ)) (s : List ℕ) → length (places_of names s) ≡ place_count
unfolding all_unseen
length-places names s = kept names s (λ ps _. length ps ≡ place_count) (λ ps at p _ l _ _. length-enter names ps at p ∙ l) refl
