-- The client registry (document 01's register): which bytes are one, and the clients that it holds.
--
-- In order: the texts of a client; a field; a record; the records of a registry; when it is fit; its clients.
use Rattle.std.specs.Prelude.{ℕ, zero, suc, ◌+◌, ◌-◌, Bool, true, cond, not, ◌&&◌, ◌||◌, List, [], ◌∷◌, map, leb, eqb, length, take, get_or, Option, Some, None}
use Rattle.octets.specs.Lists.{part, every, is_zero, in_class, same}
use Rattle.client_registry.specs.Layout.{max_clients, public_kind, confidential_kind, id_room, redirect_room, secret_room, at_id, at_redirect, at_scope, at_secret, public_size, confidential_size}

-- ---- texts

-- 1 to `most` bytes, each within low and high and none of them `except`
unfoldable pub sound_text : ℕ → ℕ → ℕ → ℕ → List ℕ → Bool
sound_text most low high except x = leb 1 (length x) && leb (length x) most && every (in_class low high except) x

-- "Ids: 1 to 32 bytes of 20-7E hex, no colon"
unfoldable pub sound_id : List ℕ → Bool
sound_id x = sound_text id_room 0x20 0x7E 0x3A x

-- "Redirects: 1 to 200 bytes of 21-7E, no `#`"
unfoldable pub sound_redirect : List ℕ → Bool
sound_redirect x = sound_text redirect_room 0x21 0x7E 0x23 x

-- "Secrets: 1 to 64 bytes of 20-7E": no exception, since 0 is outside that range
unfoldable pub sound_secret : List ℕ → Bool
sound_secret x = sound_text secret_room 0x20 0x7E 0x00 x

-- ---- a field: a byte that says how many bytes behind it are used, and room for more

-- the field at `at`: the bytes in use
abbrev pub field_text : List ℕ → ℕ → List ℕ
field_text r at = part r (at + 1) (get_or r at 0)

-- the bytes of its room that are not in use
abbrev pub field_rest : List ℕ → ℕ → ℕ → List ℕ
field_rest r at room = part r (at + 1 + get_or r at 0) (room - get_or r at 0)

-- the text is within the room and sound; "Unused bytes are zero"
unfoldable pub sound_field : (List ℕ → Bool) → List ℕ → ℕ → ℕ → Bool
sound_field sound r at room = leb (get_or r at 0) room && sound (field_text r at) && every is_zero (field_rest r at room)

-- ---- a record

-- "id length, 32 for the id, redirect length, 200 for the redirect, scope set"; "Scope sets are not empty"
unfoldable pub sound_common : List ℕ → Bool
sound_common r =
    sound_field sound_id r at_id id_room
    && sound_field sound_redirect r at_redirect redirect_room
    && not (eqb (get_or r at_scope 0) 0)

-- "Kind 1, public, 235 bytes"
unfoldable pub sound_public : List ℕ → Bool
sound_public r = eqb (get_or r 0 0) public_kind && eqb (length r) public_size && sound_common r

-- "Kind 2, confidential, 300 bytes: the same, then secret length and 64 for the secret"
unfoldable pub sound_confidential : List ℕ → Bool
sound_confidential r =
    eqb (get_or r 0 0) confidential_kind
    && eqb (length r) confidential_size
    && sound_common r
    && sound_field sound_secret r at_secret secret_room

unfoldable pub sound_record : List ℕ → Bool
sound_record r = sound_public r || sound_confidential r

-- ---- the records of a registry

-- how many bytes a record takes, its kind among them: a byte that is no kind stands alone, and is not sound
unfoldable pub record_size : ℕ → ℕ
record_size k = cond (eqb k public_kind) public_size (cond (eqb k confidential_kind) confidential_size 1)

-- the records behind the next n bytes, one after the other, each as long as its kind says. The last is what is left,
-- and is not sound where that is less than a whole record
unfoldable pub records_behind : ℕ → List ℕ → List (List ℕ)
records_behind n [] = []
records_behind zero (k ∷ t) = take (record_size k) (k ∷ t) ∷ records_behind (record_size k - 1) t
records_behind (suc n) (k ∷ t) = records_behind n t

abbrev pub records : List ℕ → List (List ℕ)
records b = records_behind 0 b

-- "1 to 64 records"; "the register ends with its last record": no bytes are left over, as they would be one more record
unfoldable pub sound_records : List ℕ → Bool
sound_records b = let rs = records b in leb 1 (length rs) && leb (length rs) max_clients && every sound_record rs

-- ---- clients

-- a public client's secret is no bytes
pub record Client : Type 0 where
  pub confidential : Bool
  pub id : List ℕ
  pub redirect : List ℕ
  pub scope : ℕ
  pub secret : List ℕ

-- the client of a record; the record of a public one ends before the secret, which then reads as no bytes
abbrev pub client_of : List ℕ → Client
client_of r = record {
  confidential = eqb (get_or r 0 0) confidential_kind;
  id = field_text r at_id;
  redirect = field_text r at_redirect;
  scope = get_or r at_scope 0;
  secret = field_text r at_secret;
}

-- "Clients number from 0": client n is the n-th of these
abbrev pub clients_of : List ℕ → List Client
clients_of b = map client_of (records b)

abbrev pub ids_of : List ℕ → List (List ℕ)
ids_of b = map (λ (c : Client). c.id) (clients_of b)

-- ---- fitness

-- two texts differ
abbrev pub differ : List ℕ → List ℕ → Bool
differ x y = not (same x y)

-- "no two equal"
unfoldable pub distinct : List (List ℕ) → Bool
distinct [] = true
distinct (x ∷ xs) = every (differ x) xs && distinct xs

-- the bytes are a client registry
unfoldable pub fit_registry : List ℕ → Bool
fit_registry b = sound_records b && distinct (ids_of b)

-- what is said of bytes that pass a test, or do not: how many clients they hold
abbrev pub count_if : Bool → List ℕ → Option ℕ
count_if q b = cond q (Some (length (clients_of b))) None

abbrev pub fitness_of : List ℕ → Option ℕ
fitness_of b = count_if (fit_registry b) b
