-- A scope set is a number below 256: the name at place k of the table is in it when its bit 2 ^ k is.
--
-- "The eight scope names stand in one fixed table: `power` 1, `peak` 2, `tariff` 4, `bill` 8, `milking` 16, `drying` 32,
-- `pump` 64, `solar` 128. So a scope set has a named empty set and a named full set, and can be joined, met and compared."
use Rattle.std.specs.Prelude.{ℕ, ◌/◌, ◌%◌, ◌^◌, Bool, List, [], ◌∷◌, eqb, get_or}
use Rattle.std.specs.Int.Bits.{bit_and, bit_or}
use Rattle.octets.specs.Text.{bytes}
use Rattle.scope.specs.declared.Scope.{Scope}

-- the table: name k stands for the number 2 ^ k
unfoldable pub names : List (List ℕ)
names =
    bytes "power"
    ∷ bytes "peak"
    ∷ bytes "tariff"
    ∷ bytes "bill"
    ∷ bytes "milking"
    ∷ bytes "drying"
    ∷ bytes "pump"
    ∷ bytes "solar"
    ∷ []

-- the name at place k, counted from 0
abbrev pub name_at : ℕ → List ℕ
name_at k = get_or names k []

-- the set has the name at place k
abbrev pub has : ℕ → ℕ → Bool
has set k = eqb (set / 2 ^ k % 2) 1

-- a set from its number
abbrev pub of_byte : ℕ → Scope
of_byte n = record { bits = n }

-- no name, and all eight
abbrev pub empty_set : Scope
empty_set = of_byte 0

abbrev pub full_set : Scope
full_set = of_byte 255

-- the names of either, and the names of both
abbrev pub join : Scope → Scope → Scope
join a b = of_byte (bit_or a.bits b.bits)

abbrev pub meet : Scope → Scope → Scope
meet a b = of_byte (bit_and a.bits b.bits)

-- every name of the first is in the second
abbrev pub is_within : Scope → Scope → Bool
is_within a b = eqb (bit_and a.bits b.bits) a.bits
