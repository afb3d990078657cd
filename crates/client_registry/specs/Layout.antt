-- Where everything lies in a client registry, and the most that each part holds. No other file of specs/ or proofs/ names
-- one of these numbers; src/layout.rt repeats them.
use Rattle.std.specs.Prelude.{ℕ, ◌+◌}

-- "1 to 64 records"
abbrev pub max_clients : ℕ
max_clients = 64

-- "Kind 1, public", "Kind 2, confidential"
abbrev pub public_kind : ℕ
public_kind = 1

abbrev pub confidential_kind : ℕ
confidential_kind = 2

-- the room of each field, behind the byte that says how much of it is used
abbrev pub id_room : ℕ
id_room = 32

abbrev pub redirect_room : ℕ
redirect_room = 200

abbrev pub secret_room : ℕ
secret_room = 64

-- where each part starts in a record: the kind at 0, a field with its length
abbrev pub at_id : ℕ
at_id = 1

abbrev pub at_redirect : ℕ
at_redirect = at_id + 1 + id_room

abbrev pub at_scope : ℕ
at_scope = at_redirect + 1 + redirect_room

abbrev pub at_secret : ℕ
at_secret = at_scope + 1

-- "one byte of kind, then a body" of 235 or 300 bytes
abbrev pub public_size : ℕ
public_size = at_secret

abbrev pub confidential_size : ℕ
confidential_size = at_secret + 1 + secret_room
