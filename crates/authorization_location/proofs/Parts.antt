-- Laws of the parts of a location.
--
-- In order: the separator; the room of the redirect address and of a parameter; the state: when it is not sent back, and as the code tests it.
--
-- Not here: texts written one behind the other (`octets`, `Writing`); how long an error word is (`protocol`, `Lengths`).
-- Assumes nothing.
use Prim.Native.Nat.{ℕ, ◌+◌, ◌≤◌, ◌<◌}
use mathlib.Core.Path.{◌≡◌, refl, sym}
use mathlib.Core.Bool.{Bool, true, false, not, ◌||◌, true≢false}
use mathlib.Core.List.{List, [], ◌++◌}
use native.Mathlib.Omega.{arith}
use borrow.Author.Tests.{lt-ltb, le-ltb, not-true, not-false}
use Rattle.std.specs.Prelude.{Result, Ok, Err}
use denote.Ref.{Bor}
use lib.ListN.{length, length-append}
use Rattle.octets.specs.Text.{bytes}
use Rattle.octets.specs.Lists.{index_of}
use Rattle.octets.specs.Writing.{Appended}
use Rattle.octets.proofs.Writing.{append-length}
use Rattle.octets.proofs.Pieces.{any-index}
use Rattle.encoding.specs.Hex.{hex_text}
use Rattle.encoding.proofs.Hex.{hex-length}
use Rattle.form_coding.specs.Coding.{encode}
use Rattle.form.specs.Content.{Value, missing, once, repeated, is_missing, is_repeated, only_value}
use Rattle.token_store.specs.Layout.{handle_size}
use Rattle.protocol.specs.declared.ErrorWord.{ErrorWord}
use Rattle.protocol.specs.Limits.{most_state}
use Rattle.protocol.specs.Answers.{word_text}
use Rattle.protocol.specs.Authorization.{is_sound_state, separator, state_text, code_parameter, error_parameter}
use Rattle.protocol.proofs.Lengths.{word-length, sound-length, separator-length}
use Rattle.authorization_location.specs.Rooms.{parameter_room, state_room, told_parameter, Tellable, Writable}

-- ---- the separator: `&` where the address holds a `?`, whose first stands before the end

module _ (redirect : List ℕ) where
  pub separator-more : index_of 63 redirect < length redirect → separator redirect ≡ bytes "&"
  unfolding separator
  separator-more h = rw (any-index 63 redirect, lt-ltb (index_of 63 redirect) (length redirect) h)

  pub separator-first : length redirect ≤ index_of 63 redirect → separator redirect ≡ bytes "?"
  unfolding separator
  separator-first h = rw (any-index 63 redirect, le-ltb (index_of 63 redirect) (length redirect) h)

  -- ---- room

  pub redirect-length : length (redirect ++ separator redirect) ≡ length redirect + 1
  redirect-length = omega (arith, length-append redirect (separator redirect), separator-length redirect)

pub code-length : (handle : List ℕ) → length handle ≡ handle_size → length (code_parameter handle) ≤ parameter_room
unfolding code_parameter
code-length handle size = omega (arith, length-append (bytes "code=") (hex_text handle), hex-length handle)

pub error-length : (word : ErrorWord) → length (error_parameter word) ≤ parameter_room
unfolding error_parameter
error-length word = omega (arith, length-append (bytes "error=") (word_text word), word-length word)

pub told-length : (told : Result (Bor (List ℕ)) ErrorWord) → Tellable told → length (told_parameter told) ≤ parameter_room
told-length (Ok handle) size = code-length handle.now size
told-length (Err word) _ = error-length word

-- a parameter fits behind the address, and the state behind a parameter
module _ {b m redirect : List ℕ} {i : ℕ} (w : Writable b redirect) where
  pub parameter-room : Appended b 0 (redirect ++ separator redirect) m i → i + parameter_room ≤ length m
  parameter-room f = omega (arith, w.room, w.address, redirect-length redirect, f.end, append-length f)

  pub state-room : {parameter a : List ℕ} {j : ℕ} → length parameter ≤ parameter_room → Appended b 0 (redirect ++ separator redirect) m i
      → Appended m i parameter a j → j + state_room ≤ length a
  state-room short f g = omega (arith, w.room, w.address, redirect-length redirect, f.end, append-length f, short, g.end, append-length g)

-- ---- the state

-- a state is not sent back
abbrev pub is_held_back : Value → Bool
is_held_back v = is_missing v || is_repeated v || not (is_sound_state (only_value v))

pub held_back : {m r s : Bool} (v : Value) → m ≡ is_missing v → r ≡ is_repeated v → s ≡ is_sound_state (only_value v) → is_held_back v ≡ (m || r || not s)
held_back v a b c = rw (a, b, c)

pub state-none : (v : Value) → is_held_back v ≡ true → state_text v ≡ []
unfolding is_missing is_repeated only_value state_text
state-none missing e = refl
state-none (once x) e = rw (not-true (is_sound_state x) e)
state-none repeated e = refl

pub state-some : (v : Value) → is_held_back v ≡ false → state_text v ≡ bytes "&state=" ++ encode (only_value v)
unfolding is_missing is_repeated only_value state_text
state-some missing e = absurd (true≢false e)
state-some (once x) e = rw (not-false (is_sound_state x) e)
state-some repeated e = absurd (true≢false e)

-- a state that is sent back is short
pub sent-length : (v : Value) → is_held_back v ≡ false → length (only_value v) ≤ most_state
unfolding is_missing is_repeated only_value
sent-length missing e = absurd (true≢false e)
sent-length (once x) e = sound-length x (not-false (is_sound_state x) e)
sent-length repeated e = absurd (true≢false e)

-- one that is missing or repeated is held back, whatever its value
pub state-unsent : (v : Value) → (is_missing v || is_repeated v) ≡ true → state_text v ≡ []
unfolding is_missing is_repeated state_text
state-unsent missing e = refl
state-unsent (once x) e = absurd (true≢false (sym e))
state-unsent repeated e = refl

-- any other came once
pub state-once : (v : Value) → (is_missing v || is_repeated v) ≡ false → v ≡ once (only_value v)
unfolding is_missing is_repeated only_value
state-once missing e = absurd (true≢false e)
state-once (once x) e = refl
state-once repeated e = absurd (true≢false e)
