-- Worked examples of the coding, computed: document 01's bytes as they are written and read back, escapes of either
-- case, and texts that are not well formed; the turns of values, sound and malformed.
-- Assumes nothing.
use Prim.Native.Nat.{ℕ}
use mathlib.Core.Path.{◌≡◌, refl}
use mathlib.Core.List.{List, [], ◌∷◌}
use mathlib.Core.Bool.{false}
use Rattle.octets.specs.Text.{bytes}
use Rattle.octets.specs.Search.{count, index_where}
use Rattle.encoding.specs.Hex.{hex_value, hex_digit}
use Rattle.form_coding.specs.Coding.{escaped, plain, first_byte, extra, decode_after, decode, sound, well_formed, encode_byte, encode}
use Rattle.form_coding.specs.Turns.{stretch, ends_stretch, stretches_after, turns}

-- a space, %, &, +, a pound sign and a euro sign in UTF-8
abbrev signs : List ℕ
signs = 0x20 ∷ 0x25 ∷ 0x26 ∷ 0x2B ∷ 0xC2 ∷ 0xA3 ∷ 0xE2 ∷ 0x82 ∷ 0xAC ∷ []

pub signs-written : encode signs ≡ bytes "+%25%26%2B%C2%A3%E2%82%AC"
unfolding encode encode_byte hex_digit
signs-written = refl

pub signs-read : decode (bytes "+%25%26%2B%C2%A3%E2%82%AC") ≡ signs
unfolding decode_after first_byte extra escaped plain hex_value
signs-read = refl

pub either-case : (decode (bytes "%7e") ≡ 0x7E ∷ []) × (decode (bytes "%7E") ≡ 0x7E ∷ [])
unfolding decode_after first_byte extra escaped plain hex_value
either-case = (refl, refl)

-- no digits behind the %, and one digit too few
pub malformed : (well_formed (bytes "a%zz") ≡ false) × (well_formed (bytes "a=%4") ≡ false)
unfolding well_formed sound escaped hex_value
malformed = (refl, refl)

-- ---- turns

-- nothing has no turn; all that is plain is one; a + and an escape are one each, and so is each stretch between and beside them
pub turns-counted :
    (turns (bytes "") ≡ 0)
    × (turns (bytes "farmdash") ≡ 1)
    × (turns (bytes "+") ≡ 1)
    × (turns (bytes "%2F") ≡ 1)
    × (turns (bytes "%2F%2f") ≡ 2)
    × (turns (bytes "++") ≡ 2)
    × (turns (bytes "a+b") ≡ 3)
    × (turns (bytes "%20a") ≡ 2)
    × (turns (bytes "a%20") ≡ 2)
    × (turns (bytes "https%3A%2F%2Ffarmdash.example%2Fcb") ≡ 7)
unfolding stretches_after ends_stretch count extra escaped hex_value
turns-counted = (refl, refl, refl, refl, refl, refl, refl, refl, refl, refl)

-- digits of an escape belong to no stretch, and digits behind it do
pub turns-digits : (turns (bytes "%4142") ≡ 2) × (turns (bytes "41%42") ≡ 2)
unfolding stretches_after ends_stretch count extra escaped hex_value
turns-digits = (refl, refl)

-- the turn of a % that begins no escape counts, and so do those behind it
pub turns-malformed : (turns (bytes "%") ≡ 1) × (turns (bytes "a%zz") ≡ 3) × (turns (bytes "%%41") ≡ 2) × (turns (bytes "%4+") ≡ 3)
unfolding stretches_after ends_stretch count extra escaped hex_value
turns-malformed = (refl, refl, refl, refl)

-- a stretch runs to the next %, to the next + or to the end, and is none where one of them comes first
pub stretch-length : (stretch (bytes "ab%41") ≡ 2) × (stretch (bytes "abc+d%41") ≡ 3) × (stretch (bytes "abcd") ≡ 4) × (stretch (bytes "+ab") ≡ 0)
unfolding index_where
stretch-length = (refl, refl, refl, refl)
