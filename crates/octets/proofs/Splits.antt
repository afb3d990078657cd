-- The pieces of a list between its separators are those that `split` of a slice gives.
--
-- In order: all of them, as std names them; one that `split` gave, and the others behind it.
-- Assumes nothing.
use Prim.Native.Nat.{ℕ}
use mathlib.Core.Path.{◌≡◌, refl, sym, ◌∙◌, ap}
use mathlib.Core.Bool.{Bool, true, false, cond}
use mathlib.Core.List.{List, [], ◌∷◌, ◌++◌}
use native.Mathlib.Omega.{arith}
use lib.Dec.{eqb}
use lib.ListN.{length}
use Rattle.std.specs.Bool.{MatchBool}
use Rattle.std.specs.List.{All, IsFirstMatchOrLen, slice_split, onto_first}
use Rattle.std.proofs.lemmas.Grind.{common_steps}
use Rattle.std.proofs.lemmas.List.Splits.{slice_split_none, slice_split_at}
use Rattle.octets.specs.Lists.{grow, split_on}
use Rattle.octets.proofs.Pieces.{split-first}

pub slice_split_on : (x : ℕ) (s : List ℕ) → slice_split (λ b. eqb b x) s ≡ split_on x s
unfolding split_on grow
slice_split_on x [] = refl
slice_split_on x (c ∷ t) = by (eqb c x) (slice_split_on x t) (split-first x t)
  where
    by : (b : Bool) {p : List ℕ} {ps : List (List ℕ)} → slice_split (λ b. eqb b x) t ≡ split_on x t → split_on x t ≡ p ∷ ps
        → cond b ([] ∷ slice_split (λ b. eqb b x) t) (onto_first c (slice_split (λ b. eqb b x) t)) ≡ cond b ([] ∷ split_on x t) (grow c (split_on x t))
    by true e f = ap (λ r. [] ∷ r) e
    by false e f = rw (e, f) refl

-- the pieces that are still to come: none once the list is done, else those of what is left of it
unfoldable pub left : ℕ → Bool → List ℕ → List (List ℕ)
left x done rest = cond done [] (split_on x rest)

-- the next piece, which ends at the first separator
pub left-next : (x : ℕ) (rest piece more : List ℕ) (done : Bool) → MatchBool done (rest ≡ piece) ((y : ℕ) × (rest ≡ piece ++ (y ∷ more)))
    → IsFirstMatchOrLen (λ b. eqb b x) rest (length piece) → left x false rest ≡ piece ∷ left x done more
unfolding left
left-next x rest piece more true e h =
    let lacks : All (λ b. eqb b x ≡ false) piece = λ k d l. let a = h.0 k d (omega arith) l in grind (arith, common_steps) in
    sym (slice_split_on x rest) ∙ ap (slice_split (λ b. eqb b x)) e ∙ slice_split_none (λ b. eqb b x) piece lacks
left-next x rest piece more false e h =
    let lacks : All (λ b. eqb b x ≡ false) piece = λ k d l. let a = h.0 k d (omega arith) l in let b = e.1 in grind (arith, common_steps) in
    let separator : eqb e.0 x ≡ true = let b = e.1 in let a = h.1 (grind (arith, common_steps)) e.0 in grind (arith, common_steps) in
    sym (slice_split_on x rest) ∙ ap (slice_split (λ b. eqb b x)) e.1 ∙ slice_split_at (λ b. eqb b x) piece e.0 more lacks separator
    ∙ ap (λ r. piece ∷ r) (slice_split_on x more)
