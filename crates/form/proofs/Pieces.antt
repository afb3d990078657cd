-- Laws of the pieces of a form: parted at `&` and joined again, each undoes the other.
--
-- In order: a text that lacks a byte in front of it; the pieces of joined pieces; the joined pieces of a text, which is
-- well formed exactly where each of its pieces is; the first of the pieces that remain at a position.
--
-- Not here: `split_on` and `remaining` by `index_of` (octets, `Pieces`).
-- Assumes nothing.
use Prim.Native.Nat.{ℕ, suc, ◌+◌, ◌≤◌}
use mathlib.Core.Path.{◌≡◌, refl, sym, ◌∙◌, ap}
use mathlib.Core.List.{List, [], ◌∷◌, ◌++◌, append-nil}
use mathlib.Core.Bool.{Bool, true, false, cond, not, ◌&&◌, false≢true, and-true}
use native.Mathlib.Nat.{zero-add, suc-add, add-zero}
use native.Mathlib.Omega.{arith}
use borrow.Author.Tests.{eq-eqb, eqb-true, le-leb}
use lib.Dec.{eqb}
use lib.ListN.{length, take, drop, length-append, length-drop}
use lib.Seq.{take-length, take-append_seam, drop-append-add, length-take-le}
use Rattle.octets.specs.Lists.{part, every, index_of, grow, split_on}
use Rattle.octets.proofs.Booleans.{and_left, and_right}
use Rattle.octets.proofs.Pieces.{index-le, remaining, remaining-end, split-first, remaining-step, remaining-within}
use Rattle.form_coding.specs.Coding.{well_formed, lacks}
use Rattle.form_coding.proofs.RoundTrip.{ampersand, well-apart}
use Rattle.form.specs.Content.{pieces, is_well_formed_form}
use Rattle.form.specs.Writing.{join}

-- ---- a text that lacks x

index-lacks : (x : ℕ) (a b : List ℕ) → lacks x a ≡ true → index_of x (a ++ b) ≡ length a + index_of x b
unfolding index_of every
index-lacks x [] b e = rw zero-add
index-lacks x (c ∷ a) b e = rw suc-add (by (eqb c x) e (index-lacks x a b))
  where
    by : (q : Bool) → (not q && lacks x a) ≡ true → (lacks x a ≡ true → index_of x (a ++ b) ≡ length a + index_of x b)
        → cond q 0 (suc (index_of x (a ++ b))) ≡ suc (length a + index_of x b)
    by true e ih = absurd (false≢true e)
    by false e ih = ap suc (ih e)

pub index-apart : (x : ℕ) (a b : List ℕ) → lacks x a ≡ true → index_of x (a ++ x ∷ b) ≡ length a
unfolding index_of
index-apart x a b e = index-lacks x a (x ∷ b) e ∙ rw (eq-eqb x x refl, add-zero)

-- ---- the pieces of joined pieces

-- a text without & is one piece
split_one : (a : List ℕ) → lacks 38 a ≡ true → pieces a ≡ a ∷ []
unfolding index_of
split_one a e =
    let n : index_of 38 a ≡ length a = rw (append-nil, add-zero) at (index-lacks 38 a [] e) in
    split-first 38 a ∙ rw (n, take-length, remaining-end 38 a (length a + 1) (omega arith))

-- in front of an & it is the first piece
split-apart : (a b : List ℕ) → lacks 38 a ≡ true → pieces (a ++ 38 ∷ b) ≡ a ∷ pieces b
split-apart a b e =
    let h : length a + 1 ≤ length (a ++ 38 ∷ b) = simp length-append (omega arith) in
    split-first 38 (a ++ 38 ∷ b) ∙ rw (index-apart 38 a b e, take-append_seam, le-leb (length a + 1) (length (a ++ 38 ∷ b)) h, drop-append-add)

pub split-join : (p : List ℕ) (ps : List (List ℕ)) → every (lacks 38) (p ∷ ps) ≡ true → pieces (join (p ∷ ps)) ≡ p ∷ ps
unfolding join every
split-join p [] e = split_one p (and_left (lacks 38 p) true e)
split-join p (q ∷ ps) e =
    split-apart p (join (q ∷ ps)) (and_left (lacks 38 p) (every (lacks 38) (q ∷ ps)) e)
    ∙ ap (λ (r : List (List ℕ)). p ∷ r) (split-join q ps (and_right (lacks 38 p) (every (lacks 38) (q ∷ ps)) e))

-- ---- the joined pieces of a text

join-split : (s : List ℕ) → join (pieces s) ≡ s
unfolding join split_on grow
join-split [] = refl
join-split (c ∷ t) = by (eqb c 38) refl _ _ (split-first 38 t) (join-split t)
  where
    front : (p : List ℕ) (ps : List (List ℕ)) → join ((c ∷ p) ∷ ps) ≡ c ∷ join (p ∷ ps)
    front p [] = refl
    front p (q ∷ ps) = refl

    by : (q : Bool) → eqb c 38 ≡ q → (p : List ℕ) (ps : List (List ℕ)) → pieces t ≡ p ∷ ps → join (pieces t) ≡ t
        → join (cond q ([] ∷ pieces t) (grow c (pieces t))) ≡ c ∷ t
    by true e p ps f ih = rw f (rw (eqb-true c 38 e) (ap (λ (r : List ℕ). 38 ∷ r) (rw f at ih)))
    by false e p ps f ih = rw f (front p ps ∙ ap (λ (r : List ℕ). c ∷ r) (rw f at ih))

-- no escape reaches past the separator
pub well-join : (ps : List (List ℕ)) → well_formed (join ps) ≡ every well_formed ps
unfolding join every well_formed
well-join [] = refl
well-join (p ∷ []) = sym (and-true (well_formed p))
well-join (p ∷ q ∷ ps) = well-apart 38 ampersand p (join (q ∷ ps)) ∙ ap (λ (b : Bool). well_formed p && b) (well-join (q ∷ ps))

pub pieces-well : (s : List ℕ) → is_well_formed_form s ≡ well_formed s
unfolding is_well_formed_form
pieces-well s = sym (well-join (pieces s)) ∙ ap well_formed (join-split s)

-- ---- the first of the pieces that remain

pub record First (s : List ℕ) (at : ℕ) (p : List ℕ) (rest : List (List ℕ)) : Type 0 where
  pub stands : p ≡ part s at (length p)
  pub fits : at + length p ≤ length s
  pub more : remaining 38 s (at + length p + 1) ≡ rest

pub first : (s : List ℕ) (at : ℕ) (p : List ℕ) (rest : List (List ℕ)) → remaining 38 s at ≡ p ∷ rest → First s at p rest
first s at p rest e =
    let h = remaining-within 38 s at p rest e in
    let r = remaining-step 38 s at h in
    let is : p ≡ take (index_of 38 (drop at s)) (drop at s) = cc in
    let next : remaining 38 s (at + index_of 38 (drop at s) + 1) ≡ rest = cc in
    let n = ap length is ∙ length-take-le (index_of 38 (drop at s)) (drop at s) (index-le 38 (drop at s)) in
    let l = simp length-drop at (index-le 38 (drop at s)) in
    record { stands = is ∙ ap (part s at) (sym n); fits = omega arith; more = ap (λ (k : ℕ). remaining 38 s (at + k + 1)) n ∙ next }
