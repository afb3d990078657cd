-- Laws of the reasons to refuse a query, as the code tests them, and of what reading it answers.
--
-- In order: refusal 5; refusal 6; a field, by its place; what the query of a known client asks; the answers.
--
-- Not here: that the first reason counts (`protocol`, `Reasons`); the clients of a registry (`client_registry`, `Lookup`).
-- Assumes nothing.
use Prim.Native.Nat.{ℕ, ◌<◌}
use mathlib.Core.Path.{◌≡◌, refl, subst, ◌∙◌}
use mathlib.Core.Bool.{true, false, not, ◌||◌, or-true}
use mathlib.Core.List.{List, ◌++◌}
use Rattle.std.specs.Prelude.{Some, None, Ok, Err}
use borrow.Author.Tests.{lt-ltb, le-ltb}
use lib.Dec.{ltb}
use lib.ListN.{length}
use Rattle.octets.specs.Text.{bytes}
use Rattle.form.specs.Content.{Value, missing, once, repeated, is_well_formed_form, form_value, is_missing, is_repeated, only_value}
use Rattle.form.specs.Places.{view_of, Within}
use Rattle.parameters.specs.Fields.{IsField}
use Rattle.parameters.specs.declared.fields.Field.{Field}
use Rattle.authorization_query.specs.declared.Names.{Names}
use Rattle.client_registry.specs.Registry.{Client as RegisteredClient, clients_of, fit_registry}
use Rattle.client_registry.specs.Lookup.{is_known, find_client}
use Rattle.client_registry.specs.declared.Entry.{Entry}
use Rattle.client_registry.proofs.Lookup.{empty-unknown, find_at, find-unknown}
use Rattle.protocol.specs.Answers.{Decision}
use Rattle.protocol.specs.declared.PageCause.{PageCause}
use Rattle.protocol.specs.declared.Refusal.TheVariants.{ErrorPage}
use Rattle.protocol.specs.Limits.{most_form}
use Rattle.protocol.specs.Refusals.{first_of}
use Rattle.protocol.specs.Requests.{unless_refused}
use Rattle.protocol.specs.Authorization.{is_bad_query, query_client, is_bad_client, is_bad_redirect, code_asked, page_reasons, redirect_reasons, code_reading, read_authorization}
use Rattle.protocol.proofs.Reasons.{First, first-counts}
use Rattle.authorization_query.specs.declared.ClientQuery.{ClientQuery}
use Rattle.authorization_query.specs.Reading.{IsRead, Named, client_named, request_by, asked_of, Known, Reads}

-- ---- refusal 5

module _ (query : List ℕ) where
  pub too_long : most_form < length query → is_bad_query query ≡ true
  unfolding is_bad_query
  too_long h = rw (lt-ltb most_form (length query) h)

  pub malformed : is_well_formed_form query ≡ false → is_bad_query query ≡ true
  unfolding is_bad_query
  malformed e = rw (e, or-true (ltb most_form (length query)))

  pub good-query : {names : Names} → IsRead query names → is_bad_query query ≡ false
  unfolding is_bad_query
  good-query r = rw (le-ltb most_form (length query) r.short, r.formed)

-- ---- refusal 6

-- a client that is known was named once: no client has an empty id
named-once : (registry : List ℕ) → fit_registry registry ≡ true → (v : Value) → is_known (only_value v) (clients_of registry) ≡ true
    → (is_repeated v || is_missing v) ≡ false
unfolding only_value is_repeated is_missing
named-once registry fit missing k = absurd (empty-unknown registry fit k)
named-once registry fit (once x) k = refl
named-once registry fit repeated k = absurd (empty-unknown registry fit k)

abbrev pub id_in : List ℕ → Value
id_in query = form_value query (bytes "client_id")

abbrev pub redirect_in : List ℕ → Value
redirect_in query = form_value query (bytes "redirect_uri")

module _ (registry query : List ℕ) where
  abbrev id : Value
  id = id_in query

  pub unknown-client : find_client registry (only_value id) ≡ None → is_bad_client (clients_of registry) query ≡ true
  unfolding is_bad_client
  unknown-client f = rw (find-unknown registry (only_value id) f, or-true (is_repeated id || is_missing id))

  pub repeated-redirect : is_repeated (redirect_in query) ≡ true → is_bad_client (clients_of registry) query ≡ true
  unfolding is_bad_client
  repeated-redirect e = rw (e, or-true (is_repeated id || is_missing id || not (is_known (only_value id) (clients_of registry))))

  module _ (fit : fit_registry registry ≡ true) (client : Entry) (found : find_client registry (only_value id) ≡ Some client) where
    pub good-client : is_repeated (redirect_in query) ≡ false → is_bad_client (clients_of registry) query ≡ false
    unfolding is_bad_client
    good-client e =
        let known = (find_at registry (only_value id) fit client found).known in
        rw (named-once registry fit id known, known, e)

    pub named : Named registry query client
    unfolding query_client
    named = let it = find_at registry (only_value id) fit client found in record { entry = it.entry; number = it.number }

-- ---- a field, by its place

module _ {s name : List ℕ} {f : Field} (is : IsField s name f) where
  pub field-within : Within s f.place
  field-within = let within : Within f.form.now f.place = f.within in rw is.form at within

  pub field-value : view_of s f.place ≡ form_value s name
  field-value = rw is.form at is.value

-- ---- what the query of a known client asks

by-decision : (clients : List RegisteredClient) (query : List ℕ) (farm : ℕ) (d : Decision)
    → request_by (code_asked clients query farm) d ≡ (unless_refused d (code_reading clients query farm)).request
unfolding unless_refused
by-decision clients query farm (Ok tt) = refl
by-decision clients query farm (Err refusal) = refl

-- ---- the answer

module _ (registry query : List ℕ) (decision farm : ℕ) where
  abbrev clients : List RegisteredClient
  clients = clients_of registry

  abbrev client : RegisteredClient
  client = client_named clients query

  pub read-page : (cause : PageCause) → First (page_reasons clients query ++ redirect_reasons client query decision farm) (Err (ErrorPage cause))
      → Reads registry query decision farm (Err cause)
  unfolding read_authorization unless_refused
  read-page cause f = record { request = rw (first-counts f); known = λ q e. cc }

  pub read-client : (q : ClientQuery) → is_bad_query query ≡ false → is_bad_client clients query ≡ false → is_bad_redirect client query ≡ false
      → q.request ≡ asked_of clients query decision farm → Known registry query q → Reads registry query decision farm (Ok q)
  unfolding read_authorization page_reasons first_of asked_of
  read-client q a b c request known =
      let asked = request ∙ by-decision clients query farm _ in
      record { request = rw (a, b, c) asked; known = λ p e. let same : q ≡ p = cc in subst (Known registry query) same known }
