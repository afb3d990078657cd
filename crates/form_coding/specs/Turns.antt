-- For contracts inside; the exports' contracts do not cite it.
--
-- The turns in which a value is decoded. Document 02, Wish 4: "A stretch, never empty, runs to the next `%` or `+`, or to
-- the value's end if neither comes." "The decoder counts its turns: for a sound value exactly one for each stretch, `+` and
-- `%`."
--
-- All of it is said of any value, as `decode` is: a `%` that begins no escape stands for itself, and has a turn like any other.
use Rattle.std.specs.Prelude.{ℕ, zero, suc, ◌+◌, List, [], ◌∷◌, Bool, false, cond, not, ◌&&◌, ◌||◌, eqb, get_or, length, take}
use Rattle.octets.specs.Lists.{same, part}
use Rattle.octets.specs.Search.{bit, count, index_where}
use Rattle.form_coding.specs.Coding.{first_byte, extra}

-- ---- stretches

-- a % or a +
abbrev pub is_mark : ℕ → Bool
is_mark c = eqb c 37 || eqb c 43

-- any other byte
abbrev pub is_plain : ℕ → Bool
is_plain c = not (is_mark c)

-- how far it is to the next % or +, or to the end: the length of the stretch that begins the list, 0 where none does
abbrev pub stretch : List ℕ → ℕ
stretch = index_where is_mark

-- ---- one turn for each stretch, + and %

-- the first byte of the list is the last of a stretch: it is plain, and what follows it is %, + or nothing
unfoldable pub ends_stretch : List ℕ → Bool
ends_stretch [] = false
ends_stretch (c ∷ []) = is_plain c
ends_stretch (c ∷ d ∷ t) = is_plain c && is_mark d

-- the stretches of a list whose first k bytes belong to an escape, which is none: each is counted at its last byte
unfoldable pub stretches_after : ℕ → List ℕ → ℕ
stretches_after k [] = 0
stretches_after (suc k) (c ∷ t) = stretches_after k t
stretches_after zero (c ∷ t) = bit (ends_stretch (c ∷ t)) + stretches_after (extra (c ∷ t)) t

abbrev pub stretches : List ℕ → ℕ
stretches l = stretches_after 0 l

abbrev pub turns : List ℕ → ℕ
turns l = stretches l + count is_mark l

-- ---- the turn that begins the list

-- how many bytes it takes
unfoldable pub turn_width : List ℕ → ℕ
turn_width l = cond (is_mark (get_or l 0 0)) (extra l + 1) (stretch l)

-- the bytes that it decodes to
unfoldable pub turn_bytes : List ℕ → List ℕ
turn_bytes l = cond (is_mark (get_or l 0 0)) (first_byte l ∷ []) (take (stretch l) l)

-- ---- comparing

-- the text stands from index k of the list on
abbrev pub stands_at : List ℕ → ℕ → List ℕ → Bool
stands_at l k text = same text (part l k (length text))
