-- For contracts inside; the exports' contracts do not cite it.
--
-- The room that a location takes: no more than the output that a call must bring.
use Rattle.std.specs.Prelude.{ℕ, ◌+◌, ◌*◌, ◌≡◌, ◌≤◌, List, Result, Ok, Err, length}
use denote.Ref.{Bor}
use Rattle.client_registry.specs.Layout.{redirect_room}
use Rattle.token_store.specs.Layout.{handle_size}
use Rattle.protocol.specs.declared.ErrorWord.{ErrorWord}
use Rattle.protocol.specs.Limits.{most_state, least_output}
use Rattle.protocol.specs.Authorization.{code_parameter, error_parameter}

-- what the client is told, as a parameter: the code of a handle, or an error word
abbrev pub told_parameter : Result (Bor (List ℕ)) ErrorWord → List ℕ
told_parameter (Ok handle) = code_parameter handle.now
told_parameter (Err word) = error_parameter word

-- a handle that is told is whole
abbrev pub Tellable : Result (Bor (List ℕ)) ErrorWord → Type 0
Tellable (Ok handle) = length handle.now ≡ handle_size
Tellable (Err word) = Unit {0}

-- the most that a parameter takes: `code=` and a handle in hex; `error=` takes less with every word
abbrev pub parameter_room : ℕ
parameter_room = 5 + 2 * handle_size

-- the most that the state takes: `&state=`, and three for each of its bytes
abbrev pub state_room : ℕ
state_room = 7 + 3 * most_state

-- a location can be written: there is room, and the address is as short as the registered ones
pub record Writable (output redirect : List ℕ) : Type 0 where
  pub room : least_output ≤ length output
  pub address : length redirect ≤ redirect_room
