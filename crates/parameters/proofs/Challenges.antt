-- The challenge that a value gives or answers, as the code reads it: a value that is missing or repeated has no bytes, and these are
-- neither a digest nor a verifier.
-- Assumes nothing.
use mathlib.Core.Path.{◌≡◌, refl}
use Rattle.encoding.specs.Base64.{is_digest_text, read_digest}
use Rattle.form.specs.Content.{Value, missing, once, repeated, only_value}
use Rattle.protocol.specs.Authorization.{challenge_given}
use Rattle.protocol.specs.Token.{is_sound_verifier, challenge_of, challenge_answered}

pub given_read : (v : Value) → read_digest (only_value v) ≡ challenge_given v
unfolding only_value challenge_given read_digest is_digest_text
given_read missing = refl
given_read (once text) = refl
given_read repeated = refl

pub answered_by : (v : Value) → challenge_of (only_value v) ≡ challenge_answered v
unfolding only_value challenge_answered is_sound_verifier
answered_by missing = refl
answered_by (once text) = refl
answered_by repeated = refl
