-- Laws of a token request: the known names, protocol's `read_token` by who a call comes from, and the request of a client, by what its
-- form says.
--
-- In order: the known names; a call, by who it comes from; a client's refresh, its exchange, its request for itself; its request, by its grant.
--
-- Not here: who a call comes from (`client_forms`).
-- Assumes nothing.
use Rattle.std.proofs.Common.{◌≡◌, refl, sym, ap, ℕ, List, Result, Ok, Err}
use Rattle.std.specs.Prelude.{Bool, true, false, Option, None, get_or}
use lib.Dec.{lit<}
use Rattle.octets.specs.Text.{bytes}
use Rattle.octets.specs.Lists.{every, same, grow, split_on}
use Rattle.encoding.specs.Hex.{read_handle}
use Rattle.form.specs.Content.{pieces, Value, is_missing, only_value, is_once}
use Rattle.form.specs.Places.{unseen, view_of, Stands, distinct}
use Rattle.form.specs.declared.Place.{Place}
use Rattle.client_registry.specs.Registry.{Client as RegisteredClient, clients_of}
use Rattle.client_registry.specs.Lookup.{client_at}
use Rattle.client_registry.specs.declared.Entry.{Entry}
use Rattle.protocol.specs.declared.ErrorWord.{ErrorWord}
use Rattle.protocol.specs.declared.ErrorWord.TheVariants.{InvalidRequest, InvalidScope, UnsupportedGrantType, UnauthorizedClient}
use Rattle.protocol.specs.declared.Refusal.TheVariants.{Token}
use Rattle.protocol.specs.declared.Request.TheVariants.{Exchange, Refresh, Credentials}
use Rattle.protocol.specs.declared.ScopeAsked.{ScopeAsked}
use Rattle.protocol.specs.Refusals.{first_of}
use Rattle.protocol.specs.Requests.{scope_asked, fits, scope_given, presenting_none, refused_reading, unless_refused}
use Rattle.protocol.specs.Authorization.{is_invalid_scope}
use Rattle.protocol.specs.ClientForms.{form_reasons}
use Rattle.protocol.specs.Token.{token_names, challenge_answered, read_exchange, read_refresh, read_credentials, read_grant, read_token}
use Rattle.client_forms.specs.declared.ClientForm.{ClientForm}
use Rattle.client_forms.specs.Forms.{ClientNames, decision_on, LetIn, Reads}

-- ---- the known names

-- as the code lists them
abbrev pub names_text : List ℕ
names_text = bytes "client_id&client_secret&grant_type&code&redirect_uri&refresh_token&scope&code_verifier"

names-parted : pieces names_text ≡ token_names
unfolding split_on grow
names-parted = refl

pub client-names : ClientNames (pieces names_text)
unfolding distinct every same
client-names = rw names-parted (record { apart = refl; few = refl; enough = refl; id = refl; secret = refl })

-- ---- a call

module _ {registry header body : List ℕ} {r : Result ClientForm ErrorWord} (reads : Reads (pieces names_text) registry header body r) where
  decided : first_of (form_reasons token_names (bytes "grant_type") (clients_of registry) header body) ≡ decision_on r
  decided = sym (rw names-parted at reads.decision)

  pub read-refused : {word : ErrorWord} → r ≡ Err word → refused_reading (Token word) ≡ read_token (clients_of registry) header body
  unfolding read_token unless_refused
  read-refused e = rw (decided, e)

  module _ {form : ClientForm} (e : r ≡ Ok form) where
    pub let-in : LetIn token_names registry body form.places form.client
    let-in = rw (names-parted, e) at reads.known

    pub read-client : read_grant (clients_of registry) form.client.number body ≡ read_token (clients_of registry) header body
    unfolding read_token unless_refused
    read-client = let named = rw e at reads.client in rw (decided, e, ← ap (λ (x : Entry). x.number) named)

-- ---- the request of a client

module _ {body : List ℕ} {places : List Place} (s : Stands token_names body places) (number : ℕ) where
  -- what the form says of name k
  abbrev said : ℕ → Value
  said k = view_of body (get_or places k unseen)

  pub token-missing : is_missing (said 5) ≡ true → refused_reading (Token InvalidRequest) ≡ read_refresh number body
  unfolding read_refresh unless_refused first_of
  token-missing e = rw (rw (s.at 5 (lit< tt)).value at e)

  pub token-there : is_missing (said 5) ≡ false → (p : Option (List ℕ)) → p ≡ read_handle (only_value (said 5)) → (scope : ScopeAsked)
      → scope ≡ scope_asked (said 6)
      → record { request = Refresh (record { client = number; scope = scope }); presented = p; challenge = None } ≡ read_refresh number body
  unfolding read_refresh unless_refused first_of
  token-there e p ep scope es = rw (ep, es, (s.at 6 (lit< tt)).value, (s.at 5 (lit< tt)).value, rw (s.at 5 (lit< tt)).value at e)

  module _ (clients : List RegisteredClient) where
    pub code-missing : is_missing (said 3) ≡ true → refused_reading (Token InvalidRequest) ≡ read_exchange clients number body
    unfolding read_exchange unless_refused first_of
    code-missing e = rw (rw (s.at 3 (lit< tt)).value at e)

    pub code-there : is_missing (said 3) ≡ false → (p : Option (List ℕ)) → p ≡ read_handle (only_value (said 3)) → (again : Bool)
        → again ≡ is_once (client_at clients number).redirect (said 4) → (challenge : Option (List ℕ)) → challenge ≡ challenge_answered (said 7)
        → record { request = Exchange (record { client = number; again = again }); presented = p; challenge = challenge }
        ≡ read_exchange clients number body
    unfolding read_exchange unless_refused first_of
    code-there e p ep again ea challenge ec =
        rw (ep, ea, ec, (s.at 4 (lit< tt)).value, (s.at 7 (lit< tt)).value, (s.at 3 (lit< tt)).value, rw (s.at 3 (lit< tt)).value at e)

    -- ---- for itself

    abbrev client : RegisteredClient
    client = client_at clients number

    pub public-client : client.confidential ≡ false → refused_reading (Token UnauthorizedClient) ≡ read_credentials clients number body
    unfolding read_credentials unless_refused first_of
    public-client e = rw e

    -- the scope asked and the client's set, as they were read
    module _ (e : client.confidential ≡ true) (asked : ScopeAsked) (ea : asked ≡ scope_asked (said 6)) (held : ℕ) (eh : held ≡ client.scope) where
      pub scope-beyond : fits asked held ≡ false → refused_reading (Token InvalidScope) ≡ read_credentials clients number body
      unfolding read_credentials unless_refused first_of is_invalid_scope
      scope-beyond n = rw (e, rw (ea, eh, (s.at 6 (lit< tt)).value) at n)

      pub scope-within : fits asked held ≡ true → (scope : ℕ) → scope ≡ scope_given asked held
          → presenting_none (Credentials (record { client = number; scope = scope })) ≡ read_credentials clients number body
      unfolding read_credentials unless_refused first_of is_invalid_scope
      scope-within y scope es = rw (e, rw (ea, eh, (s.at 6 (lit< tt)).value) at y, es, ea, eh, (s.at 6 (lit< tt)).value)

    -- ---- the grants

    pub grant-code : is_once (bytes "authorization_code") (said 2) ≡ true → read_exchange clients number body ≡ read_grant clients number body
    unfolding read_grant
    grant-code e = rw (rw (s.at 2 (lit< tt)).value at e)

    module _ (other : is_once (bytes "authorization_code") (said 2) ≡ false) where
      pub grant-token : is_once (bytes "refresh_token") (said 2) ≡ true → read_refresh number body ≡ read_grant clients number body
      unfolding read_grant
      grant-token e = rw (rw (s.at 2 (lit< tt)).value at other, rw (s.at 2 (lit< tt)).value at e)

      module _ (neither : is_once (bytes "refresh_token") (said 2) ≡ false) where
        pub grant-credentials : is_once (bytes "client_credentials") (said 2) ≡ true → read_credentials clients number body ≡ read_grant clients number body
        unfolding read_grant
        grant-credentials e =
            rw (rw (s.at 2 (lit< tt)).value at other, rw (s.at 2 (lit< tt)).value at neither, rw (s.at 2 (lit< tt)).value at e)

        pub grant-other : is_once (bytes "client_credentials") (said 2) ≡ false → refused_reading (Token UnsupportedGrantType) ≡ read_grant clients number body
        unfolding read_grant
        grant-other e =
            rw (rw (s.at 2 (lit< tt)).value at other, rw (s.at 2 (lit< tt)).value at neither, rw (s.at 2 (lit< tt)).value at e)
