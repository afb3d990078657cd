-- Looking a client up by its id, and where its record lies.
use Rattle.std.specs.Prelude.{ℕ, zero, suc, ◌+◌, ◌≤◌, ◌<◌, ◌≡◌, Bool, true, false, cond, List, [], ◌∷◌, ltb, length, get_or, Option, Some, None}
use Rattle.octets.specs.Lists.{part, same}
use Rattle.octets.specs.Search.{index_where}
use Rattle.client_registry.specs.Layout.{public_size}
use Rattle.client_registry.specs.Registry.{Client, sound_record, record_size, records, client_of, clients_of}
use Rattle.client_registry.specs.declared.Entry.{Entry}

-- ---- by the clients

-- the number of the client with this id: where there is none, the number of clients
abbrev pub number_of : List ℕ → List Client → ℕ
number_of id cs = index_where (λ c. same c.id id) cs

-- some client has this id
abbrev pub is_known : List ℕ → List Client → Bool
is_known id cs = ltb (number_of id cs) (length cs)

-- what stands where there is no client
abbrev pub no_client : Client
no_client = record { confidential = false; id = []; redirect = []; scope = 0; secret = [] }

-- client n
abbrev pub client_at : List Client → ℕ → Client
client_at cs n = get_or cs n no_client

-- ---- by the bytes

-- how many bytes the first n records take
unfoldable pub start_of : ℕ → List (List ℕ) → ℕ
start_of zero rs = 0
start_of (suc n) [] = 0
start_of (suc n) (r ∷ rs) = length r + start_of n rs

-- client n and where its record starts
abbrev pub entry_of : List ℕ → ℕ → Entry
entry_of b n = record { number = n; start = start_of n (records b) }

-- the client with this id
unfoldable pub find_client : List ℕ → List ℕ → Option Entry
find_client b id = cond (is_known id (clients_of b)) (Some (entry_of b (number_of id (clients_of b)))) None

-- the record that starts at `at`
abbrev pub record_at : List ℕ → ℕ → List ℕ
record_at b at = part b at (record_size (get_or b at 0))

-- the bytes are the record of a client
pub record IsRecordOf (c : Client) (r : List ℕ) : Type 0 where
  pub client : client_of r ≡ c
  pub sound : sound_record r ≡ true
  pub least : public_size ≤ length r

-- where the record behind it starts
abbrev pub next_of : List ℕ → ℕ → ℕ
next_of b at = at + record_size (get_or b at 0)

-- the entry is one of the registry's: the record that starts there is that of this number
pub record IsEntry (b : List ℕ) (e : Entry) : Type 0 where
  pub known : e.number < length (clients_of b)
  pub there : record_at b e.start ≡ get_or (records b) e.number []
