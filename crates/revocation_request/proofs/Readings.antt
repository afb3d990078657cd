-- Laws of a revocation request: the known names, and protocol's `read_revocation` by who a call comes from.
--
-- Not here: who a call comes from (`client_forms`).
-- Assumes nothing.
use Rattle.std.proofs.Common.{◌≡◌, refl, sym, ap, ℕ, List, get_or, Option, Result, None, Ok, Err}
use lib.Dec.{lit<}
use Rattle.octets.specs.Text.{bytes}
use Rattle.octets.specs.Lists.{every, same, grow, split_on}
use Rattle.encoding.specs.Hex.{read_handle}
use Rattle.form.specs.Content.{pieces, only_value}
use Rattle.form.specs.Places.{unseen, view_of, distinct}
use Rattle.client_registry.specs.Registry.{clients_of}
use Rattle.client_registry.specs.declared.Entry.{Entry}
use Rattle.protocol.specs.declared.ErrorWord.{ErrorWord}
use Rattle.protocol.specs.declared.Refusal.TheVariants.{Token}
use Rattle.protocol.specs.declared.Request.TheVariants.{Revocation}
use Rattle.protocol.specs.Refusals.{first_of}
use Rattle.protocol.specs.Requests.{refused_reading, unless_refused}
use Rattle.protocol.specs.ClientForms.{form_reasons}
use Rattle.protocol.specs.Revocation.{revocation_names, read_revocation}
use Rattle.client_forms.specs.declared.ClientForm.{ClientForm}
use Rattle.client_forms.specs.Forms.{ClientNames, decision_on, LetIn, Reads}

-- ---- the known names

-- as the code lists them
abbrev pub names_text : List ℕ
names_text = bytes "client_id&client_secret&token&token_type_hint"

names-parted : pieces names_text ≡ revocation_names
unfolding split_on grow
names-parted = refl

pub client-names : ClientNames (pieces names_text)
unfolding distinct every same
client-names = rw names-parted (record { apart = refl; few = refl; enough = refl; id = refl; secret = refl })

-- ---- a call

module _ {registry header body : List ℕ} {r : Result ClientForm ErrorWord} (reads : Reads (pieces names_text) registry header body r) where
  decided : first_of (form_reasons revocation_names (bytes "token") (clients_of registry) header body) ≡ decision_on r
  decided = sym (rw names-parted at reads.decision)

  pub read-refused : {word : ErrorWord} → r ≡ Err word → refused_reading (Token word) ≡ read_revocation (clients_of registry) header body
  unfolding read_revocation unless_refused
  read-refused e = rw (decided, e)

  module _ {form : ClientForm} (e : r ≡ Ok form) where
    pub let-in : LetIn revocation_names registry body form.places form.client
    let-in = rw (names-parted, e) at reads.known

    pub read-client : (p : Option (List ℕ)) → p ≡ read_handle (only_value (view_of body (get_or form.places 2 unseen)))
        → record { request = Revocation (record { client = form.client.number }); presented = p; challenge = None }
        ≡ read_revocation (clients_of registry) header body
    unfolding read_revocation unless_refused
    read-client p ep =
        let named = rw e at reads.client in
        rw (decided, e, ep, (let-in.stands.at 2 (lit< tt)).value, ← ap (λ (x : Entry). x.number) named)
