-- For examples alone.
--
-- The clients of document 01's "A visit, written out", and a registry of them.
use Rattle.std.specs.Prelude.{ℕ, ◌-◌, true, false, cond, List, [], ◌∷◌, ◌++◌, length, replicate}
use Rattle.octets.specs.Text.{bytes}
use Rattle.client_registry.specs.Layout.{public_kind, confidential_kind, id_room, redirect_room, secret_room}
use Rattle.client_registry.specs.Registry.{Client}

-- a text as a field: its length, its bytes, and zeros to the end of the room
abbrev pub field_of : ℕ → List ℕ → List ℕ
field_of room x = length x ∷ x ++ replicate (room - length x) 0

-- a client's record
unfoldable pub record_of : Client → List ℕ
record_of c =
    cond c.confidential confidential_kind public_kind
    ∷ field_of id_room c.id
    ++ field_of redirect_room c.redirect
    ++ c.scope
    ∷ cond c.confidential (field_of secret_room c.secret) []

-- a registry of these clients
unfoldable pub registry_of : List Client → List ℕ
registry_of [] = []
registry_of (c ∷ cs) = record_of c ++ registry_of cs

-- "Client 0: confidential, `s6BhdRkqt3`, `gX1fBat3bV`, `https://client.example.com/cb`, set 11."
unfoldable pub sample_confidential : Client
sample_confidential = record {
  confidential = true;
  id = bytes "s6BhdRkqt3";
  redirect = bytes "https://client.example.com/cb";
  scope = 11;
  secret = bytes "gX1fBat3bV";
}

-- "Client 1: public, `barnapp`, `https://barn.example/r?x=1`, set 1."
unfoldable pub sample_public : Client
sample_public = record {
  confidential = false;
  id = bytes "barnapp";
  redirect = bytes "https://barn.example/r?x=1";
  scope = 1;
  secret = [];
}

unfoldable pub sample_clients : List Client
sample_clients = sample_confidential ∷ sample_public ∷ []

unfoldable pub sample_registry : List ℕ
sample_registry = registry_of sample_clients
