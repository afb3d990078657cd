-- Laws of `step_of`: what a step of the reader's cursor is, and what it tells.
--
-- In order: the piece at a cursor, as the code finds it; a step by cases; what a step that gave a piece, or the end,
-- tells of the form, the cursor and the pieces that remain.
-- Assumes nothing.
use Prim.Native.Nat.{ℕ, ◌+◌, ◌-◌, ◌<◌, ◌≤◌}
use mathlib.Core.Path.{◌≡◌, refl, ◌∙◌, ap}
use mathlib.Core.List.{List, ◌∷◌}
use mathlib.Core.Bool.{Bool, true, false, cond}
use native.Mathlib.Nat.{add-sub_cancel_left}
use native.Mathlib.Omega.{arith}
use borrow.Author.Tests.{le-leb, lt-leb, leb-true, leb-false}
use lib.Dec.{leb}
use lib.ListN.{length, drop, length-drop}
use Rattle.octets.specs.Lists.{part, index_of}
use Rattle.octets.proofs.Lists.{part-rest}
use Rattle.octets.proofs.Pieces.{index-le, remaining, remaining-step}
use Rattle.form.specs.declared.Span.{Span}
use Rattle.form.specs.declared.Cursor.{Cursor}
use Rattle.std.specs.Prelude.{Option, Some, None}
use Rattle.form.specs.Places.{step_of}

-- the piece is the first that remains, and the cursor stands past it and its separator
pub record Told (s : List ℕ) (at : ℕ) (p : Span) (m : Cursor) : Type 0 where
  pub begins : p.start ≡ at
  pub forward : p.start ≤ p.end
  pub within : p.end ≤ length s
  pub moved : m.at ≡ p.end + 1
  pub first : remaining 38 s at ≡ part s p.start (p.end - p.start) ∷ remaining 38 s m.at

module _ (s : List ℕ) (at : ℕ) where
  -- ---- a step by cases: the code looks for the piece's end in the rest of the form

  module _ (n : ℕ) (e : n ≡ index_of 38 (part s at (length s - at))) (h : at ≤ length s) where
    found : n ≡ index_of 38 (drop at s)
    found = e ∙ ap (index_of 38) (part-rest s at)

    pub found_within : at + n ≤ length s
    found_within = omega (arith, found, simp length-drop at (index-le 38 (drop at s)))

    pub step-piece : step_of s at ≡ Some (record { start = at; end = at + n }, record { at = at + n + 1 })
    unfolding step_of
    step-piece = rw (le-leb at (length s) h, found)

  pub step_end : length s < at → step_of s at ≡ None
  unfolding step_of
  step_end h = rw (lt-leb at (length s) h)

  -- ---- what a step tells

  abbrev pub Tells : Option (Span × Cursor) → Type 0
  Tells (Some (p, m)) = Told s at p m
  Tells None = length s < at

  pub step-tells : (r : Option (Span × Cursor)) → r ≡ step_of s at → Tells r
  unfolding step_of
  step-tells r e = rw e (by (leb at (length s)) refl)
    where
      n : ℕ
      n = index_of 38 (drop at s)

      by : (b : Bool) → leb at (length s) ≡ b → Tells (cond b (Some (record { start = at; end = at + n }, record { at = at + n + 1 })) None)
      by true t =
          let h = leb-true at (length s) t in
          let l = simp length-drop at (index-le 38 (drop at s)) in
          record {
            begins = refl;
            forward = omega arith;
            within = omega arith;
            moved = refl;
            first = rw (add-sub_cancel_left at n) (remaining-step 38 s at h);
          }
      by false t = leb-false at (length s) t
