-- For the round trip of whole forms; no code writes one yet.
--
-- A whole form, written from names and values, and what such a list says of a name.
use Rattle.std.specs.Prelude.{ℕ, List, [], ◌∷◌, ◌++◌, map, cond, not, ◌&&◌}
use Rattle.octets.specs.Lists.{Bytes, same}
use Rattle.form_coding.specs.Coding.{encode}
use Rattle.form.specs.Content.{Value, add}

-- a name and its value
pub record Field : Type 0 where
  pub name : List ℕ
  pub value : List ℕ

-- each name and each value is a list of bytes
abbrev pub OfBytes : List Field → Type 0
OfBytes [] = Unit
OfBytes (f ∷ fs) = Bytes f.name × Bytes f.value × OfBytes fs

-- a piece: name=value
unfoldable pub write_piece : Field → List ℕ
write_piece f = encode f.name ++ 61 ∷ encode f.value

-- pieces with & between them
unfoldable pub join : List (List ℕ) → List ℕ
join [] = []
join (p ∷ []) = p
join (p ∷ q ∷ ps) = p ++ 38 ∷ join (q ∷ ps)

unfoldable pub write_form : List Field → List ℕ
write_form fs = join (map write_piece fs)

-- what fields say of the name n, after others said `acc` of it: one with an empty value says nothing
unfoldable pub field_value : List ℕ → Value → List Field → Value
field_value n acc [] = acc
field_value n acc (f ∷ fs) = field_value n (cond (not (same f.value []) && same f.name n) (add acc f.value) acc) fs
