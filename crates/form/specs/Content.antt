-- What a form says of a name, by its pieces alone.
--
-- "Pieces part at `&`; empty pieces are skipped. The name ends at the first `=`; without one the value is empty."
-- "Pieces with empty value are dropped, then repeats are counted. Unknown names are ignored, repeated or not."
use Rattle.std.specs.Prelude.{ℕ, ◌+◌, List, [], ◌∷◌, Bool, true, false, cond, ◌&&◌, ltb, length, take, drop}
use Rattle.octets.specs.Lists.{every, same, index_of, split_on}
use Rattle.form_coding.specs.Coding.{decode, well_formed}

-- the pieces of a form, empty ones among them: those have no value and are dropped with the others that have none
abbrev pub pieces : List ℕ → List (List ℕ)
pieces s = split_on 38 s

-- "another `%` is malformed, in any piece"
unfoldable pub is_well_formed_form : List ℕ → Bool
is_well_formed_form s = every well_formed (pieces s)

-- the decoded name of a piece, which ends at the first =
unfoldable pub piece_name : List ℕ → List ℕ
piece_name p = decode (take (index_of 61 p) p)

-- the decoded value of a piece: what stands behind the first =
unfoldable pub piece_value : List ℕ → List ℕ
piece_value p = decode (drop (index_of 61 p + 1) p)

-- the piece has a value that is not empty, and the name n
unfoldable pub gives : List ℕ → List ℕ → Bool
gives n p = ltb (index_of 61 p + 1) (length p) && same (piece_name p) n

-- what a form says of a name: nothing, one value, or more than one
pub data Value : Type 0 where
  missing : Value
  once : List ℕ → Value
  repeated : Value

-- one value more
unfoldable pub add : Value → List ℕ → Value
add missing v = once v
add (once u) v = repeated
add repeated v = repeated

-- what pieces say of the name n, after others said `acc` of it
unfoldable pub value_in : List ℕ → Value → List (List ℕ) → Value
value_in n acc [] = acc
value_in n acc (p ∷ ps) = value_in n (cond (gives n p) (add acc (piece_value p)) acc) ps

-- what the form s says of the name n
unfoldable pub form_value : List ℕ → List ℕ → Value
form_value s n = value_in n missing (pieces s)

-- ---- what is asked of it

unfoldable pub is_missing : Value → Bool
is_missing missing = true
is_missing (once v) = false
is_missing repeated = false

unfoldable pub is_repeated : Value → Bool
is_repeated missing = false
is_repeated (once v) = false
is_repeated repeated = true

-- the one value; nothing where the name is missing or repeated
unfoldable pub only_value : Value → List ℕ
only_value missing = []
only_value (once v) = v
only_value repeated = []

-- the name came once, with these bytes
unfoldable pub is_once : List ℕ → Value → Bool
is_once e missing = false
is_once e (once v) = same v e
is_once e repeated = false
