-- The coding of names and values: "`+` is a space and `%` with two hex digits of either case a byte; another `%` is
-- malformed". "The writer keeps letters, digits and `- . _ *`, writes a space as `+`, the rest as `%` and two
-- upper-case digits."
--
-- Decoding is total, and being well formed is a test of its own: a `%` that begins no escape stands for itself in
-- `decode`, and makes the form malformed by `well_formed`.
use Rattle.std.specs.Prelude.{ℕ, zero, suc, ◌+◌, ◌*◌, ◌/◌, ◌%◌, List, [], ◌∷◌, ◌++◌, Bool, true, cond, not, ◌&&◌, ◌||◌, leb, eqb, get_or, Option, None, option_map, option_and_then, unwrap_or}
use Rattle.std.specs.Option.{is_some}
use Rattle.octets.specs.Lists.{every}
use Rattle.encoding.specs.Hex.{hex_value, hex_digit}
use Rattle.form_coding.specs.declared.Symbol.{Symbol}

-- the byte of two hex digits of either case, if both are digits
abbrev pub hex_pair : ℕ → ℕ → Option ℕ
hex_pair high low = option_and_then (λ h. option_map (λ l. h * 16 + l) (hex_value true low)) (hex_value true high)

-- the byte of the escape that begins the list, % and two hex digits, if one does
unfoldable pub escaped : List ℕ → Option ℕ
escaped l = cond (eqb (get_or l 0 0) 37) (hex_pair (get_or l 1 0) (get_or l 2 0)) None

-- the list begins with an escape
abbrev pub is_escape : List ℕ → Bool
is_escape l = is_some (escaped l)

-- a byte outside of escapes: + is a space, any other stands for itself
unfoldable pub plain : ℕ → ℕ
plain c = cond (eqb c 43) 32 c

-- the first decoded byte of the list
unfoldable pub first_byte : List ℕ → ℕ
first_byte l = unwrap_or (escaped l) (plain (get_or l 0 0))

-- how many bytes of the list it takes beyond one
unfoldable pub extra : List ℕ → ℕ
extra l = cond (is_escape l) 2 0

-- the decoded bytes of a list whose first k bytes belong to an escape that is decoded already
unfoldable pub decode_after : ℕ → List ℕ → List ℕ
decode_after k [] = []
decode_after (suc k) (c ∷ t) = decode_after k t
decode_after zero (c ∷ t) = first_byte (c ∷ t) ∷ decode_after (extra (c ∷ t)) t

-- the decoded bytes of a name or a value
abbrev pub decode : List ℕ → List ℕ
decode l = decode_after 0 l

-- the first decoded byte, and how many bytes it is written in
unfoldable pub symbol_of : List ℕ → Symbol
symbol_of l = record { byte = first_byte l; width = extra l + 1 }

-- the first byte of the list is no % or begins an escape
unfoldable pub sound : List ℕ → Bool
sound l = not (eqb (get_or l 0 0) 37) || is_escape l

-- each % begins an escape
unfoldable pub well_formed : List ℕ → Bool
well_formed [] = true
well_formed (c ∷ t) = sound (c ∷ t) && well_formed t

-- letters, digits and - . _ *
abbrev pub is_kept : ℕ → Bool
is_kept c =
    leb 48 c && leb c 57 || leb 65 c && leb c 90 || leb 97 c && leb c 122 || eqb c 45 || eqb c 46 || eqb c 95 || eqb c 42

-- how the writer writes a byte
unfoldable pub encode_byte : ℕ → List ℕ
encode_byte b = cond (is_kept b) (b ∷ []) (cond (eqb b 32) (43 ∷ []) (37 ∷ hex_digit 65 (b / 16) ∷ hex_digit 65 (b % 16) ∷ []))

-- how the writer writes a name or a value
unfoldable pub encode : List ℕ → List ℕ
encode [] = []
encode (b ∷ t) = encode_byte b ++ encode t

-- no byte of the list is x
abbrev pub lacks : ℕ → List ℕ → Bool
lacks x = every (λ c. not (eqb c x))
