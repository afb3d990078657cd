-- Laws of the clients of a fit registry, for the crates above.
--
-- In order: how many there are; what each is like.
--
-- Not here: what a sound text is like (`Fields`); a look-up by id (`Lookup`).
-- Assumes nothing.
use mathlib.Core.Path.{◌≡◌, sym, subst}
use mathlib.Core.Bool.{true, false}
use mathlib.Core.List.{List, []}
use mathlib.Core.Logic.{⊎_elim}
use Prim.Native.Nat.{ℕ, ◌≤◌, ◌<◌}
use native.Mathlib.Decide.{dec_lt}
use native.Mathlib.Omega.{arith}
use borrow.Author.Tests.{eqb-true, eqb-false}
use lib.Dec.{eqb}
use lib.ListN.{length, get_or, length-map, get_or-map, get_or-eq_default}
use Rattle.octets.specs.Lists.{Bytes}
use Rattle.octets.proofs.Lists.{every-at}
use Rattle.client_registry.specs.Layout.{max_clients, redirect_room, confidential_kind, at_scope, at_secret}
use Rattle.client_registry.specs.Registry.{Client, sound_id, sound_redirect, sound_secret, sound_record, field_text, records, client_of, clients_of, fit_registry}
use Rattle.client_registry.specs.Lookup.{no_client, client_at}
use Rattle.client_registry.proofs.Fields.{redirect-text}
use Rattle.client_registry.proofs.Fit.{fit-records}
use Rattle.client_registry.proofs.Records.{Public, Confidential, sound-kinds, sound-parts, records-bytes}

-- ---- how many

pub record Count (n : ℕ) : Type 0 where
  pub least : 1 ≤ n
  pub most : n ≤ max_clients

-- "1 to 64"
pub fit_count : (b : List ℕ) → fit_registry b ≡ true → Count (length (clients_of b))
fit_count b fit =
    let s = fit-records b fit in
    let e = length-map (records b) client_of in
    record { least = omega arith; most = omega arith }

-- ---- what each is like

pub record SoundClient (c : Client) : Type 0 where
  pub id-sound : sound_id c.id ≡ true
  pub redirect-sound : sound_redirect c.redirect ≡ true
  pub scope-some : c.scope ≡ 0 → ⊥
  pub secret-sound : c.confidential ≡ true → sound_secret c.secret ≡ true

module _ (r : List ℕ) (sound : sound_record r ≡ true) where
  pub has-secret : eqb (get_or r 0 0) confidential_kind ≡ true → Confidential r
  has-secret k =
      ⊎_elim
      (λ (p : Public r). absurd (omega (arith, eqb-true (get_or r 0 0) confidential_kind k)))
      (λ (c : Confidential r). c)
      (sound-kinds r sound)

  pub no-secret : eqb (get_or r 0 0) confidential_kind ≡ false → field_text r at_secret ≡ []
  no-secret k =
      ⊎_elim
      (λ (p : Public r). rw (get_or-eq_default r 0 {n = at_secret} (omega arith)))
      (λ (c : Confidential r). absurd (eqb-false (get_or r 0 0) confidential_kind k c.kind))
      (sound-kinds r sound)

  pub record-client : SoundClient (client_of r)
  record-client =
      let parts = sound-parts r sound in
      record {
        id-sound = parts.id.text;
        redirect-sound = parts.redirect.text;
        scope-some = parts.scope;
        secret-sound = λ k. (has-secret k).secret.text;
      }

module _ (b : List ℕ) where
  -- client n is that of record n
  pub client-record : (n : ℕ) → client_at (clients_of b) n ≡ client_of (get_or (records b) n [])
  client-record n = get_or-map client_of (records b) n []

  -- each client of a fit registry is sound
  pub fit-client : fit_registry b ≡ true → (n : ℕ) → n < length (clients_of b) → SoundClient (client_at (clients_of b) n)
  fit-client fit n h =
      let k : n < length (records b) = omega (arith, length-map (records b) client_of) in
      subst SoundClient (sym (client-record n))
      (record-client (get_or (records b) n []) (every-at sound_record (records b) [] (fit-records b fit).each n k))

  -- no address is longer than its field, and where there is no client there is none
  pub redirect-most : fit_registry b ≡ true → (n : ℕ) → length (client_at (clients_of b) n).redirect ≤ redirect_room
  redirect-most fit n = by (dec_lt n (length (clients_of b)))
    where
      by : Dec (n < length (clients_of b)) → length (client_at (clients_of b) n).redirect ≤ redirect_room
      by (yes h) = (redirect-text (client_at (clients_of b) n).redirect (fit-client fit n h).redirect-sound).most
      by (no h) = rw (get_or-eq_default (clients_of b) no_client {n = n} (omega arith)) (omega arith)

  -- a scope set is a byte
  pub scope-byte : Bytes b → (n : ℕ) → (client_at (clients_of b) n).scope < 256
  scope-byte h n = rw client-record (records-bytes 0 b h n at_scope)
