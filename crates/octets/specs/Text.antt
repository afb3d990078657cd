-- A text of ASCII characters as its bytes, so that definitions can say `bytes "client_id"`.
use Rattle.std.specs.Prelude.{ℕ, List, [] as nil, ◌∷◌ as ◌then◌}
use Prim.Native.Char.{code}
use Prim.Native.String.{String, [], ◌∷◌}

abbrev pub bytes : String → List ℕ
bytes [] = nil
bytes (c ∷ s) = ◌then◌ (code c) (bytes s)
