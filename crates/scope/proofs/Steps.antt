-- How the reader and the writer of a scope value go on: what is left to read, or to write, gives the whole.
--
-- In order: reading, one text after the other; writing, one name after the other.
--
-- Not here: what was read and what is written, as a whole (`Value`); the loop over the table of names (`Names`).
-- Assumes nothing.
use Prim.Native.Nat.{ℕ, suc, ◌+◌, ◌≤◌, ◌<◌}
use mathlib.Core.Path.{◌≡◌, refl, sym}
use mathlib.Core.Bool.{Bool, true, false, cond, not, ◌&&◌, and-true}
use mathlib.Core.List.{List, [], ◌∷◌, ◌++◌, append-nil}
use native.Mathlib.Numerals.{add-one}
use lib.Bits.{bit_or, or_zero_r}
use lib.ListN.{drop, drop_of_length-le}
use lib.Seq.{drop-cons}
use Rattle.std.specs.Prelude.{Option, Some, None}
use Rattle.octets.specs.Lists.{every}
use Rattle.octets.proofs.Booleans.{and-false}
use Rattle.octets.proofs.Splits.{left}
use Rattle.scope.specs.Set.{names, name_at, has, of_byte, empty_set, join}
use Rattle.scope.specs.Value.{bit_of, is_name, set_named, union, read_scope, chosen, spaced, name_text, scope_text}
use Rattle.scope.specs.declared.Scope.{Scope}
use Rattle.scope.proofs.Set.{or_assoc}

-- ---- reading, one text after the other

-- what is read of the texts that are left, where s is the set of the names before them
unfoldable pub read_from : Scope → List (List ℕ) → Option Scope
read_from s ns = cond (every is_name ns) (Some (join s (of_byte (union ns)))) None

pub read-start : (v : List ℕ) → read_from empty_set (left 32 false v) ≡ read_scope v
unfolding read_from read_scope left
read-start v = refl

pub read_name : (s t : Scope) (n : List ℕ) (ns : List (List ℕ)) → set_named n ≡ Some t → read_from s (n ∷ ns) ≡ read_from (join s t) ns
unfolding read_from every union set_named
read_name s t n ns e = by (is_name n) e
  where
    by : (b : Bool) → cond b (Some (of_byte (bit_of n))) None ≡ Some t
        → cond (b && every is_name ns) (Some (join s (of_byte (bit_or (bit_of n) (union ns))))) None
        ≡ cond (every is_name ns) (Some (join (join s t) (of_byte (union ns)))) None
    by true e = let f : t ≡ of_byte (bit_of n) = cc in rw (f, or_assoc s.bits (bit_of n) (union ns))
    by false e = absurd (cc)

pub read-other : (s : Scope) (n : List ℕ) (ns : List (List ℕ)) → set_named n ≡ None → read_from s (n ∷ ns) ≡ None
unfolding read_from every set_named
read-other s n ns e = by (is_name n) e
  where
    by : (b : Bool) → cond b (Some (of_byte (bit_of n))) None ≡ None
        → cond (b && every is_name ns) (Some (join s (of_byte (union (n ∷ ns))))) None ≡ None
    by true e = absurd (cc)
    by false e = refl

pub read-end : (s : Scope) (done : Bool) → done ≡ true → (rest : List ℕ) → read_from s (left 32 done rest) ≡ Some s
unfolding read_from every union left
read-end s done e rest = rw (e, or_zero_r s.bits)

-- ---- writing, one name after the other

-- texts behind another, each with a space in front
led : List (List ℕ) → List ℕ
led [] = []
led (n ∷ ns) = 32 ∷ n ++ led ns

spaced-cons : (n : List ℕ) (ns : List (List ℕ)) → spaced (n ∷ ns) ≡ n ++ led ns
unfolding spaced led
spaced-cons n [] = sym (append-nil n)
spaced-cons n (m ∷ ms) = rw (spaced-cons m ms)

-- what is left to write of a set from place k on; `first` where no name was written before
unfoldable pub unwritten : ℕ → ℕ → Bool → List ℕ
unfolding led
unwritten set k first = let ns = chosen set k (drop k names) in cond first (spaced ns) (led ns)

pub text-start : (set : ℕ) → unwritten set 0 true ≡ scope_text set
unfolding unwritten scope_text
text-start set = refl

-- the name at place k, and the rest behind it
pub text-step : (set k : ℕ) (first : Bool) → k < 8
    → unwritten set k first ≡ name_text (has set k) first k ++ unwritten set (k + 1) (first && not (has set k))
unfolding unwritten name_text led chosen names
text-step set k first h = rw (add-one, drop-cons names k [] h) (by (has set k) first)
  where
    rest : List (List ℕ)
    rest = chosen set (suc k) (drop (suc k) names)

    written : Bool → List (List ℕ) → List ℕ
    written first ns = cond first (spaced ns) (led ns)

    by : (q first : Bool)
        → written first (cond q (name_at k ∷ rest) rest) ≡ cond q (cond first (name_at k) (32 ∷ name_at k)) [] ++ written (first && not q) rest
    by true true = spaced-cons (name_at k) rest
    by true false = refl
    by false true = refl
    by false false = refl

module _ (set k : ℕ) (first : Bool) (h : k < 8) where
  pub text-chosen : has set k ≡ true → unwritten set k first ≡ name_text true first k ++ unwritten set (k + 1) false
  text-chosen e = rw (e, and-false) at (text-step set k first h)

  pub text-skipped : has set k ≡ false → unwritten set k first ≡ unwritten set (k + 1) first
  unfolding name_text
  text-skipped e = rw (e, and-true) at (text-step set k first h)

pub text-end : (set k : ℕ) (first : Bool) → 8 ≤ k → unwritten set k first ≡ []
unfolding unwritten led chosen names spaced
text-end set k true h = rw (drop_of_length-le names h)
text-end set k false h = rw (drop_of_length-le names h)
