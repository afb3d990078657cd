-- The definitions of specs/Turns.antt are what Wish 4 says of them.
--
-- In order: a stretch is not empty, its bytes are plain, and what follows it is %, + or nothing; a value cut into stretches, +
-- and escapes, a stretch never next to another: `turns` is the number of pieces, whatever the cut; each value that is well
-- formed has such a cut.
--
-- Not here: how the functions go from turn to turn (`Turns`).
-- Assumes nothing.
use Prim.Native.Nat.{ℕ, zero, suc, ◌<◌, ◌≤◌}
use mathlib.Core.Path.{◌≡◌, refl, sym, ◌∙◌, ap, subst}
use mathlib.Core.List.{List, [], ◌∷◌, ◌++◌}
use mathlib.Core.Bool.{Bool, true, false, not, ◌&&◌, true≢false}
use native.Mathlib.Nat.{not-suc-le-zero, add-zero}
use native.Mathlib.Omega.{arith}
use borrow.Author.Tests.{eqb-true, not-true}
use lib.Dec.{eqb}
use lib.ListN.{get_or, length, take, drop, length-drop, take-append-drop, drop_of_length-le}
use lib.Seq.{get_or-drop, drop-append_seam}
use Rattle.octets.specs.Lists.{every}
use Rattle.octets.specs.Search.{count, index_where}
use Rattle.octets.proofs.Booleans.{by-test, and_left, and_right}
use Rattle.octets.proofs.Searches.{index_at}
use Rattle.encoding.specs.Hex.{hex_value}
use Rattle.form_coding.specs.Coding.{escaped, is_escape, extra, sound, well_formed}
use Rattle.form_coding.specs.Turns.{is_mark, is_plain, stretch, stretches_after, turns}
use Rattle.std.specs.Option.{is_some}
use Rattle.form_coding.proofs.Coding.{pair-is, escape-digits, escape-short}
use Rattle.form_coding.proofs.Turns.{turns-stretch, turns-mark}

-- ---- a stretch

pub stretch-some : (c : ℕ) (t : List ℕ) → is_plain c ≡ true → 0 < stretch (c ∷ t)
unfolding index_where
stretch-some c t h = rw (not-true (is_mark c) h) (omega arith)

pub stretch-plain : (l : List ℕ) → every is_plain (take (stretch l) l) ≡ true
unfolding index_where every
stretch-plain [] = refl
stretch-plain (c ∷ t) = by-test (is_mark c) (λ e. rw e) (λ e. rw (e, e) (stretch-plain t))

pub stretch-stops : (l : List ℕ) → stretch l < length l → is_mark (get_or l (stretch l) 0) ≡ true
stretch-stops l = index_at is_mark 0 l

-- ---- a value in pieces

-- a stretch with its first byte, a +, an escape with its digits
pub data Piece : Type 0 where
  stretch_of : ℕ → List ℕ → Piece
  plus : Piece
  escape : ℕ → ℕ → Piece

-- how it stands in the value
abbrev written : Piece → List ℕ
written (stretch_of c t) = c ∷ t
written plus = 43 ∷ []
written (escape h l) = 37 ∷ h ∷ l ∷ []

abbrev is_digit : ℕ → Bool
is_digit d = is_some (hex_value true d)

-- its bytes are such as it may have
abbrev is_sound : Piece → Bool
is_sound (stretch_of c t) = every is_plain (c ∷ t)
is_sound plus = true
is_sound (escape h l) = is_digit h && is_digit l

abbrev is_stretch : Piece → Bool
is_stretch (stretch_of c t) = true
is_stretch plus = false
is_stretch (escape h l) = false

abbrev begins_stretch : List Piece → Bool
begins_stretch [] = false
begins_stretch (p ∷ ps) = is_stretch p

-- a stretch goes as far as it can: no other is next to it
abbrev pub is_cut : List Piece → Bool
is_cut [] = true
is_cut (p ∷ ps) = is_sound p && (not (is_stretch p && begins_stretch ps) && is_cut ps)

abbrev pub joined : List Piece → List ℕ
joined [] = []
joined (p ∷ ps) = written p ++ joined ps

-- ---- its turns are its pieces

-- the list is empty, or begins with % or +
abbrev BeginsMarked : List ℕ → Type 0
BeginsMarked l = 0 < length l → is_mark (get_or l 0 0) ≡ true

-- so it is with what follows a stretch in a cut
follows : (ps : List Piece) → begins_stretch ps ≡ false → BeginsMarked (joined ps)
follows [] f n = absurd (not-suc-le-zero n)
follows (stretch_of c t ∷ ps) f n = absurd (true≢false f)
follows (plus ∷ ps) f n = refl
follows (escape h l ∷ ps) f n = refl

-- so that it is as long as it is written
stretch-whole : (p rest : List ℕ) → every is_plain p ≡ true → BeginsMarked rest → stretch (p ++ rest) ≡ length p
unfolding index_where every
stretch-whole [] [] h f = refl
stretch-whole [] (c ∷ t) h f = rw (f (omega arith))
stretch-whole (c ∷ p) rest h f =
    rw (not-true (is_mark c) (and_left (is_plain c) (every is_plain p) h)) (ap suc (stretch-whole p rest (and_right (is_plain c) (every is_plain p) h) f))

turns-piece : (p : Piece) (rest : List ℕ) → is_sound p ≡ true → (is_stretch p ≡ true → BeginsMarked rest) → turns (written p ++ rest) ≡ suc (turns rest)
unfolding every extra escaped
turns-piece (stretch_of c t) rest h f =
    let plain = not-true (is_mark c) (and_left (is_plain c) (every is_plain t) h) in
    turns-stretch c (t ++ rest) plain ∙ rw (stretch-whole (c ∷ t) rest h (f refl), drop-append_seam t rest)
turns-piece plus rest h f = turns-mark 43 rest refl
turns-piece (escape d e) rest h f = turns-mark 37 (d ∷ e ∷ rest) refl ∙ rw (pair-is d e, h)

pub cut-turns : (ps : List Piece) → is_cut ps ≡ true → turns (joined ps) ≡ length ps
unfolding stretches_after count
cut-turns [] h = refl
cut-turns (p ∷ ps) h =
    let apart : Bool = not (is_stretch p && begins_stretch ps) in
    let others = and_right (is_sound p) (apart && is_cut ps) h in
    let next = not-true (is_stretch p && begins_stretch ps) (and_left apart (is_cut ps) others) in
    turns-piece p (joined ps) (and_left (is_sound p) (apart && is_cut ps) h) (λ s. follows ps (rw s at next))
    ∙ ap suc (cut-turns ps (and_right apart (is_cut ps) others))

-- ---- a value that is well formed has a cut

well-drop : (k : ℕ) (l : List ℕ) → well_formed l ≡ true → well_formed (drop k l) ≡ true
unfolding well_formed
well-drop zero l h = h
well-drop (suc k) [] h = h
well-drop (suc k) (c ∷ t) h = well-drop k t (and_right (sound (c ∷ t)) (well_formed t) h)

-- what is left behind a stretch
stretch-rest : (l : List ℕ) → BeginsMarked (drop (stretch l) l)
stretch-rest l n = simp (get_or-drop, add-zero) (stretch-stops l (omega (arith, length-drop (stretch l) l)))

not-stretch : (ps : List Piece) → is_cut ps ≡ true → BeginsMarked (joined ps) → begins_stretch ps ≡ false
unfolding every
not-stretch [] h f = refl
not-stretch (stretch_of c t ∷ ps) h f =
    let rest : Bool = not (begins_stretch ps) && is_cut ps in
    let plain = and_left (is_plain c) (every is_plain t) (and_left (every is_plain (c ∷ t)) rest h) in
    absurd (true≢false (sym (f (omega arith)) ∙ not-true (is_mark c) plain))
not-stretch (plus ∷ ps) h f = refl
not-stretch (escape d e ∷ ps) h f = refl

abbrev HasCut : List ℕ → Type 0
HasCut v = (ps : List Piece) × (is_cut ps ≡ true) × (joined ps ≡ v)

-- one piece more
plus-cut : (t : List ℕ) → HasCut t → HasCut (43 ∷ t)
plus-cut t r = (plus ∷ r.0, r.1, ap (λ (u : List ℕ). 43 ∷ u) r.2)

escape-cut : (t : List ℕ) → is_escape (37 ∷ t) ≡ true → HasCut (drop 2 t) → HasCut (37 ∷ t)
escape-cut [] h r = absurd (true≢false (sym h ∙ ap is_some (escape-short (37 ∷ []) (omega arith))))
escape-cut (d ∷ []) h r = absurd (true≢false (sym h ∙ ap is_some (escape-short (37 ∷ d ∷ []) (omega arith))))
escape-cut (d ∷ e ∷ t) h r =
    let digits = escape-digits (37 ∷ d ∷ e ∷ t) h in
    (escape d e ∷ r.0, rw (digits.0, digits.1) r.1, ap (λ (u : List ℕ). 37 ∷ d ∷ e ∷ u) r.2)

stretch-cut : (c : ℕ) (t : List ℕ) → is_mark c ≡ false → HasCut (drop (stretch t) t) → HasCut (c ∷ t)
unfolding every
stretch-cut c t m r =
    let begun = not-stretch r.0 r.1 (subst BeginsMarked (sym r.2) (stretch-rest t)) in (
      stretch_of c (take (stretch t) t) ∷ r.0,
      rw (m, stretch-plain t, begun) r.1,
      ap (λ (u : List ℕ). c ∷ u) (rw r.2 (take-append-drop (stretch t) t)),
    )

-- the first piece, by its first byte, and a cut of what is left behind it
first-cut : (v : List ℕ) → well_formed v ≡ true → ((k : ℕ) → HasCut (drop (suc k) v)) → HasCut v
unfolding well_formed sound
first-cut [] w rest = ([], refl, refl)
first-cut (c ∷ t) w rest =
    let begins = and_left (sound (c ∷ t)) (well_formed t) w in
    by-test (eqb c 37)
    (λ e.
    let is = eqb-true c 37 e in
    let digits = subst (λ (x : ℕ). sound (x ∷ t) ≡ true) is begins in
    subst (λ (x : ℕ). HasCut (x ∷ t)) (sym is) (escape-cut t digits (rest 2)))
    (λ e.
    by-test (eqb c 43) (λ f. subst (λ (x : ℕ). HasCut (x ∷ t)) (sym (eqb-true c 43 f)) (plus-cut t (rest 0)))
    (λ f. stretch-cut c t (rw (e, f)) (rest (stretch t))))

-- by the length of what is left
pub cut_of : (v : List ℕ) → well_formed v ≡ true → HasCut v
cut_of v w = within (length v) v (omega arith) w
  where
    within : (n : ℕ) (v : List ℕ) → length v ≤ n → well_formed v ≡ true → HasCut v
    within zero v h w = first-cut v w (λ k. ([], refl, sym (drop_of_length-le v {i = suc k} (omega arith))))
    within (suc n) v h w = first-cut v w (λ k. within n (drop (suc k) v) (omega (arith, length-drop (suc k) v)) (well-drop (suc k) v w))
