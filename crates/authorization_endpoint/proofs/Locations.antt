-- Laws of a query that is answered.
--
-- In order: how many random bytes its request takes; a call by its reading; an error page; the query of a known client.
-- Assumes nothing.
use Prim.Native.Nat.{ℕ, ◌≤◌}
use mathlib.Core.Path.{◌≡◌, refl, ap, ◌∙◌}
use mathlib.Core.Bool.{true}
use mathlib.Core.List.{List, ◌++◌}
use Rattle.std.specs.Prelude.{Result, Ok, Err}
use native.Mathlib.Omega.{arith}
use lib.ListN.{length}
use lib.Seq.{sets, take_all}
use Rattle.octets.specs.Writing.{Appended}
use Rattle.octets.proofs.Writing.{append-front}
use Rattle.form.specs.Places.{view_of}
use Rattle.client_registry.specs.Layout.{redirect_room}
use Rattle.client_registry.specs.Registry.{Client, clients_of, fit_registry}
use Rattle.client_registry.specs.Lookup.{client_at, IsEntry}
use Rattle.client_registry.specs.declared.Entry.{Entry}
use Rattle.client_registry.proofs.Clients.{fit-client}
use Rattle.client_registry.proofs.Fields.{redirect-text}
use Rattle.token_store.specs.Store.{Store}
use Rattle.token_store.specs.declared.Slot.{Slot}
use Rattle.protocol.specs.Answers.{Decision}
use Rattle.protocol.specs.declared.AuthorizationAnswer.{AuthorizationAnswer}
use Rattle.protocol.specs.declared.PageCause.{PageCause}
use Rattle.protocol.specs.declared.Refusal.{Refusal}
use Rattle.protocol.specs.declared.Refusal.TheVariants.{ErrorPage}
use Rattle.protocol.specs.declared.Request.{Request}
use Rattle.protocol.specs.declared.Request.TheVariants.{Refused}
use Rattle.protocol.specs.declared.Reading.{Reading}
use Rattle.protocol.specs.Limits.{code_random}
use Rattle.protocol.specs.Refusals.{first_of}
use Rattle.protocol.specs.Requests.{unless_refused}
use Rattle.protocol.specs.Authorization.{query_client, page_reasons, redirect_reasons, code_reading, read_authorization, location_text}
use Rattle.protocol.specs.Granting.{plan_of, decision_on, refused_plan, plan_for, slots_by}
use Rattle.protocol.specs.Outcomes.{serve_authorization}
use Rattle.admission.specs.Entering.{Serves}
use Rattle.granting.specs.declared.Issued.{Issued}
use Rattle.granting.specs.Granted.{random_needed, decision_of, Follows}
use Rattle.granting.proofs.Plans.{follows-decision}
use Rattle.authorization_query.specs.declared.ClientQuery.{ClientQuery}
use Rattle.authorization_query.specs.Reading.{Known}
use Rattle.authorization_endpoint.specs.Locations.{location_for, reading_with, answered}

-- ---- a query asks for a code or for nothing: one handle is enough

pub query-random : (clients : List Client) (query : List ℕ) (decision farm : ℕ)
    → random_needed (read_authorization clients query decision farm).request ≤ code_random
unfolding read_authorization unless_refused
query-random clients query decision farm =
    by (first_of (page_reasons clients query ++ redirect_reasons (client_at clients (query_client clients query)) query decision farm))
  where
    by : (d : Decision) → random_needed (unless_refused d (code_reading clients query farm)).request ≤ code_random
    by (Ok tt) = omega arith
    by (Err refusal) = omega arith

-- ---- a call is served as its query was read

-- the challenge of a request that is refused is not looked at
same-plan : (clients : List Client) (query : List ℕ) (farm t : ℕ) (slots : List Slot) (random : List ℕ) (d : Decision)
    → let reading = unless_refused d (code_reading clients query farm) in
    plan_of t slots random (reading_with query reading.request) ≡ plan_of t slots random reading
unfolding unless_refused plan_for
same-plan clients query farm t slots random (Ok tt) = refl
same-plan clients query farm t slots random (Err refusal) = refl

module _ (clients : List Client) (query : List ℕ) (decision farm t : ℕ) (random : List ℕ)
    {before after : Store} {out written : List ℕ} {r : AuthorizationAnswer} where
  pub reading-served : (request : Request) → request ≡ (read_authorization clients query decision farm).request
      → Serves (answered clients query (reading_with query request) t before.slots random) before after out written r
      → Serves (serve_authorization query decision farm clients t before.slots random) before after out written r
  unfolding serve_authorization read_authorization
  reading-served request e s =
      let rs = page_reasons clients query ++ redirect_reasons (client_at clients (query_client clients query)) query decision farm in
      rw (e, same-plan clients query farm t before.slots random (first_of rs)) at s

-- ---- an error page: nothing is written, and no slot changes

module _ (clients : List Client) (query : List ℕ) (t : ℕ) (random : List ℕ) (before : Store) where
  pub page-served : (cause : PageCause) (output : List ℕ)
      → Serves (answered clients query (reading_with query (Refused (ErrorPage cause))) t before.slots random) before before output output
      (record { decision = Err (ErrorPage cause); length = 0 })
  unfolding plan_for refused_plan first_of slots_by location_text
  page-served cause output = record { answer = refl; text = refl; store = refl }

-- ---- the query of a known client

-- its address is as short as every registered one
pub address-short : (registry : List ℕ) (e : Entry) → fit_registry registry ≡ true → IsEntry registry e
    → length (client_at (clients_of registry) e.number).redirect ≤ redirect_room
address-short registry e fit known =
    (redirect-text (client_at (clients_of registry) e.number).redirect (fit-client registry fit e.number known.known).redirect-sound).most

module _ (registry query : List ℕ) (q : ClientQuery) (known : Known registry query q) (random : List ℕ) (size : length random ≡ code_random) where
  -- the location by the entry and the place is that of the query
  location-known : (d : Decision)
      → location_text (client_at (clients_of registry) q.client.number).redirect (view_of query q.state) random d
      ≡ location_for (clients_of registry) query random d
  location-known d = rw (known.number, known.state, take_all code_random random (omega arith))

  pub client-served : (t : ℕ) (reading : Reading) (before after : Store) (granted : Result Issued Refusal)
      → Follows (plan_of t before.slots random reading) before granted after
      → (redirect : List ℕ) → redirect ≡ (client_at (clients_of registry) q.client.number).redirect
      → (out written : List ℕ) (n : ℕ) → Appended out 0 (location_text redirect (view_of query q.state) random (decision_of granted)) written n
      → Serves (answered (clients_of registry) query reading t before.slots random) before after out written
      (record { decision = decision_of granted; length = n })
  client-served t reading before after granted follows redirect e out written n w =
      let plan = plan_of t before.slots random reading in
      let decided : decision_of granted ≡ decision_on plan = follows-decision follows in
      let state = view_of query q.state in
      let text : location_text redirect state random (decision_of granted) ≡ location_for (clients_of registry) query random (decision_on plan) =
      ap (λ (x : List ℕ). location_text x state random (decision_of granted)) e ∙ location-known (decision_of granted)
      ∙ ap (location_for (clients_of registry) query random) decided
      in
      record {
        answer = λ j. record { decision = decided j; length = (append-front w ∙ ap length text) j };
        text = w.bytes ∙ ap (sets out 0) text;
        store = follows.store;
      }
