-- A state that may not be sent back, as the code tests it: one that is missing has no bytes, and is sound.
-- Assumes nothing.
use mathlib.Core.Path.{◌≡◌, refl}
use mathlib.Core.Bool.{not, ◌||◌}
use Rattle.octets.specs.Lists.{every}
use Rattle.form.specs.Content.{Value, missing, once, repeated, is_repeated, only_value}
use Rattle.protocol.specs.Authorization.{is_sound_state, is_bad_state}

pub bad_state : (v : Value) → (is_repeated v || not (is_sound_state (only_value v))) ≡ is_bad_state v
unfolding is_repeated only_value is_bad_state is_sound_state every
bad_state missing = refl
bad_state (once state) = refl
bad_state repeated = refl
