-- A scope set as a text: "A scope value is names with one space between; order and repeats don't matter. Replies list
-- names in table order."
use Rattle.std.specs.Prelude.{ℕ, suc, ◌*◌, Bool, false, cond, not, ◌||◌, Option, Some, None, List, [], ◌∷◌, ◌++◌, eqb}
use Rattle.std.specs.Int.Bits.{bit_or}
use Rattle.octets.specs.Lists.{every, same, split_on}
use Rattle.scope.specs.Set.{names, name_at, has, of_byte}
use Rattle.scope.specs.declared.Scope.{Scope}

-- the number of a name in a list of names, the first of which stands for b: 0 where it is none of them
unfoldable pub bit_from : ℕ → List ℕ → List (List ℕ) → ℕ
bit_from b n [] = 0
bit_from b n (k ∷ ks) = let r = bit_from (b * 2) n ks in cond (same n k) b r

-- the number of a scope name: 0 for a text that is none
unfoldable pub bit_of : List ℕ → ℕ
bit_of n = bit_from 1 n names

abbrev pub is_name : List ℕ → Bool
is_name n = not (eqb (bit_of n) 0)

-- the set of one name: nothing for a text that is none
unfoldable pub set_named : List ℕ → Option Scope
set_named n = cond (is_name n) (Some (of_byte (bit_of n))) None

-- the set of some names
unfoldable pub union : List (List ℕ) → ℕ
union [] = 0
union (n ∷ ns) = bit_or (bit_of n) (union ns)

-- what a scope value says. The texts between its spaces must all be scope names, so no value with two spaces together,
-- or with one at its start or end, says anything, and neither does the empty one
unfoldable pub read_scope : List ℕ → Option Scope
read_scope v = let ns = split_on 32 v in cond (every is_name ns) (Some (record { bits = union ns })) None

-- the names of a list that a set has, the first of which stands at place k of the table
unfoldable pub chosen : ℕ → ℕ → List (List ℕ) → List (List ℕ)
chosen set k [] = []
chosen set k (n ∷ ns) = let r = chosen set (suc k) ns in cond (has set k) (n ∷ r) r

-- texts with one space between
unfoldable pub spaced : List (List ℕ) → List ℕ
spaced [] = []
spaced (n ∷ []) = n
spaced (n ∷ m ∷ ms) = n ++ 32 ∷ spaced (m ∷ ms)

-- a set as it is written
unfoldable pub scope_text : ℕ → List ℕ
scope_text set = spaced (chosen set 0 names)

-- the name at place k as it is written: nothing where it is not chosen, the first as it stands, each other behind a space
unfoldable pub name_text : Bool → Bool → ℕ → List ℕ
name_text chosen first k = cond chosen (cond first (name_at k) (32 ∷ name_at k)) []

-- n is one of the texts: by this the laws say that order and repeats don't matter
unfoldable pub is_among : List ℕ → List (List ℕ) → Bool
is_among n [] = false
is_among n (t ∷ ts) = same t n || is_among n ts
