-- For contracts inside; the exports' contracts do not cite it.
--
-- What a query comes to that was read so: protocol's `serve_authorization` behind the reading.
use Rattle.std.specs.Prelude.{ℕ, List, length, None}
use Rattle.octets.specs.Text.{bytes}
use Rattle.form.specs.Content.{form_value}
use Rattle.client_registry.specs.Registry.{Client}
use Rattle.client_registry.specs.Lookup.{client_at}
use Rattle.token_store.specs.declared.Slot.{Slot}
use Rattle.protocol.specs.declared.AuthorizationAnswer.{AuthorizationAnswer}
use Rattle.protocol.specs.Answers.{Decision}
use Rattle.protocol.specs.declared.Reading.{Reading}
use Rattle.protocol.specs.declared.Request.{Request}
use Rattle.protocol.specs.Authorization.{query_client, challenge_given, location_text}
use Rattle.protocol.specs.Granting.{first_handle, plan_of, decision_on, slots_after}
use Rattle.protocol.specs.Outcomes.{Served}

-- the location for a decision: it leads to the address of the client that the query names
abbrev pub location_for : List Client → List ℕ → List ℕ → Decision → List ℕ
location_for clients query random decided =
    location_text (client_at clients (query_client clients query)).redirect (form_value query (bytes "state")) (first_handle random) decided

-- a request with the challenge that its query gives. What is granted to one that is refused does not depend on it
abbrev pub reading_with : List ℕ → Request → Reading
reading_with query request = record {
  request = request;
  presented = None;
  challenge = challenge_given (form_value query (bytes "code_challenge"));
}

abbrev pub answered : List Client → List ℕ → Reading → ℕ → List Slot → List ℕ → Served AuthorizationAnswer
answered clients query reading t slots random =
    let plan = plan_of t slots random reading in
    let text = location_for clients query random (decision_on plan) in
    record { answer = record { decision = decision_on plan; length = length text }; text = text; slots = slots_after plan }
