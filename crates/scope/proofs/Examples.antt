-- Worked examples of scope values, computed: document 01's, values of bad form or with a text that is no name, and a
-- set as it is written.
-- Assumes nothing.
use Prim.Native.Nat.{ℕ}
use mathlib.Core.Path.{◌≡◌, refl}
use mathlib.Core.List.{List, [], ◌∷◌, map}
use Rattle.octets.specs.Lists.{every, same, split_on, grow}
use Rattle.octets.specs.Text.{bytes}
use Rattle.scope.specs.Set.{names, of_byte}
use Rattle.scope.specs.declared.Scope.{Scope}
use Rattle.scope.specs.Value.{bit_from, bit_of, union, read_scope, chosen, spaced, scope_text}
use Rattle.std.specs.Prelude.{Option, Some, None}

-- texts, and what each says
abbrev cases : List (List ℕ × Option Scope)
cases =
    (bytes "bill power", Some (of_byte 9))
    ∷ (bytes "power bill power", Some (of_byte 9))
    ∷ (bytes "power  bill", None)
    ∷ (bytes " power", None)
    ∷ (bytes "power ", None)
    ∷ (bytes "Power", None)
    ∷ (bytes "pow", None)
    ∷ (bytes "powers", None)
    ∷ (bytes "", None)
    ∷ []

pub read-cases : map (λ c. read_scope c.0) cases ≡ map (λ c. c.1) cases
unfolding read_scope every union bit_of bit_from names same split_on grow
read-cases = refl

pub written : scope_text 11 ≡ bytes "power peak bill"
unfolding scope_text chosen spaced names
written = refl
