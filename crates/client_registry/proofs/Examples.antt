-- The clients of document 01's worked visit in a registry, and what spoils it: the definitions on examples, by computation.
-- Assumes nothing.
use mathlib.Core.Path.{◌≡◌, refl}
use mathlib.Core.Bool.{false}
use mathlib.Core.List.{List, [], ◌∷◌, ◌++◌, map}
use Prim.Native.Nat.{ℕ, zero, suc, ◌+◌}
use lib.ListN.{set}
use Rattle.octets.specs.Lists.{every, same}
use Rattle.octets.specs.Search.{index_where}
use Rattle.octets.specs.Text.{bytes}
use Rattle.client_registry.specs.Layout.{max_clients, at_id, at_redirect, at_scope, confidential_size}
use Rattle.client_registry.specs.Registry.{Client, sound_text, sound_id, sound_redirect, sound_secret, sound_field, sound_common, sound_public, sound_confidential, sound_record, record_size, records_behind, sound_records, clients_of, distinct, fit_registry, fitness_of}
use Rattle.client_registry.specs.Lookup.{start_of, find_client}
use Rattle.client_registry.specs.Sample.{record_of, registry_of, sample_confidential, sample_public, sample_clients, sample_registry}
use Rattle.std.specs.Prelude.{Option, Some, None}

-- a public client with this id
abbrev called : List ℕ → Client
called x = record { confidential = false; id = x; redirect = bytes "https://barn.example/r"; scope = 1; secret = [] }

-- n clients, each with an id of one letter
abbrev letters : ℕ → List Client
letters zero = []
letters (suc n) = called ((0x3B + n) ∷ []) ∷ letters n

-- registries, and what is said of them
registries : List (List ℕ)
registries =
    sample_registry  -- as it stands
    ∷ registry_of (letters max_clients)  -- as many clients as may be
    ∷ []  -- none
    ∷ registry_of (letters (suc max_clients))  -- one too many
    ∷ registry_of (sample_confidential ∷ called (bytes "s6BhdRkqt3") ∷ [])  -- two equal ids
    ∷ (sample_registry ++ 0 ∷ [])  -- a byte past the end
    ∷ set sample_registry (at_id + 1) 0x3A  -- a colon in an id
    ∷ set sample_registry (at_id + 11) 0x20  -- a byte past an id that is not zero
    ∷ set sample_registry at_id 0  -- an id of no bytes
    ∷ set sample_registry (at_redirect + 1) 0x23  -- `#` in a redirect
    ∷ set sample_registry at_scope 0  -- no scope
    ∷ set sample_registry confidential_size 2  -- a record cut short
    ∷ set sample_registry confidential_size 3  -- no kind
    ∷ []

said : List (Option ℕ)
said = Some 2 ∷ Some max_clients ∷ None ∷ None ∷ None ∷ None ∷ None ∷ None ∷ None ∷ None ∷ None ∷ None ∷ None ∷ []

registries-said : map fitness_of registries ≡ said
unfolding registries said fit_registry distinct sound_records records_behind record_size sound_record sound_confidential sound_public sound_common sound_field sound_secret sound_redirect sound_id sound_text every same sample_registry sample_clients sample_public sample_confidential registry_of record_of
registries-said = refl

sample-clients : clients_of sample_registry ≡ sample_clients
unfolding records_behind record_size sample_registry sample_clients sample_public sample_confidential registry_of record_of
sample-clients = refl

sample-found : map (find_client sample_registry) (bytes "s6BhdRkqt3" ∷ bytes "barnapp" ∷ bytes "barnap" ∷ [] ∷ [])
    ≡ Some (record { number = 0; start = 0 }) ∷ Some (record { number = 1; start = confidential_size }) ∷ None ∷ None ∷ []
unfolding find_client index_where start_of same records_behind record_size sample_registry sample_clients sample_public sample_confidential registry_of record_of
sample-found = refl
