-- Hex digits, and handles as text: 20 bytes in 40 lower-case digits.
use Rattle.std.specs.Prelude.{ℕ, ◌+◌, ◌-◌, ◌*◌, ◌/◌, ◌%◌, List, [], ◌∷◌, Bool, false, cond, ◌&&◌, ◌||◌, leb, ltb, eqb, length, Option, Some, None, unwrap_or}
use Rattle.octets.specs.Lists.{every, same}

-- the value of a hex digit, if the byte is one. Upper-case letters count only where `any_case` says so
unfoldable pub hex_value : Bool → ℕ → Option ℕ
hex_value any_case c =
    cond (leb 48 c && leb c 57) (Some (c - 48))
    (cond (leb 97 c && leb c 102) (Some (c - 87)) (cond (any_case && (leb 65 c && leb c 70)) (Some (c - 55)) None))

-- the hex digit of a number below 16; `ten` is the digit of 10, which is `A` or `a`
unfoldable pub hex_digit : ℕ → ℕ → ℕ
hex_digit ten n = cond (ltb n 10) (n + 48) (n - 10 + ten)

-- bytes as lower-case hex, two digits for each
unfoldable pub hex_text : List ℕ → List ℕ
hex_text [] = []
hex_text (b ∷ t) = hex_digit 97 (b / 16) ∷ hex_digit 97 (b % 16) ∷ hex_text t

-- the byte is a lower-case hex digit: 0 to 9 or a to f
abbrev pub is_lower_hex : ℕ → Bool
is_lower_hex c = leb 48 c && leb c 57 || leb 97 c && leb c 102

-- "A presented handle is 40 lower-case hex digits; any other text matches no slot."
unfoldable pub is_handle_text : List ℕ → Bool
is_handle_text t = eqb (length t) 40 && every is_lower_hex t

-- the value of a lower-case hex digit; any other byte counts as 0
abbrev pub lower_value : ℕ → ℕ
lower_value c = unwrap_or (hex_value false c) 0

-- the bytes that pairs of lower-case hex digits stand for
unfoldable pub unhex : List ℕ → List ℕ
unhex [] = []
unhex (h ∷ []) = []
unhex (h ∷ l ∷ t) = (lower_value h * 16 + lower_value l) ∷ unhex t

-- the handle that a presented text is, if it is one
unfoldable pub read_handle : List ℕ → Option (List ℕ)
read_handle t = cond (is_handle_text t) (Some (unhex t)) None

-- what was presented, if anything was, is these bytes: of a handle and of a digest
abbrev pub presents : Option (List ℕ) → List ℕ → Bool
presents None h = false
presents (Some b) h = same b h
