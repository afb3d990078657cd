-- The whole outcome of each endpoint, from raw bytes and numbers: the answer, the output after, the store after.
--
-- Every function here is total: it says what happens for every input, fit or not.
use Rattle.std.specs.Prelude.{ℕ, Bool, false, cond, not, ◌||◌, List, [], ◌∷◌, ltb, eqb, length, Ok, Err}
use Rattle.std.proofs.lemmas.List.Edits.{sets}
use Rattle.octets.specs.Text.{bytes}
use Rattle.encoding.specs.Hex.{read_handle}
use Rattle.form.specs.Content.{form_value}
use Rattle.client_registry.specs.Registry.{Client, fit_registry, clients_of}
use Rattle.client_registry.specs.Lookup.{client_at}
use Rattle.token_store.specs.Layout.{latest_time}
use Rattle.token_store.specs.Store.{call_time, decode, encode}
use Rattle.token_store.specs.Fit.{fit_store}
use Rattle.token_store.specs.declared.Slot.{Slot}
use Rattle.protocol.specs.declared.Refusal.{Refusal}
use Rattle.protocol.specs.declared.Refusal.TheVariants.{Unfit}
use Rattle.protocol.specs.declared.Input.TheVariants.{Buffers, Registry, Store, Clock}
use Rattle.protocol.specs.declared.AuthorizationAnswer.{AuthorizationAnswer}
use Rattle.protocol.specs.declared.TokenAnswer.{TokenAnswer}
use Rattle.protocol.specs.declared.CheckAnswer.{CheckAnswer}
use Rattle.protocol.specs.declared.CheckAnswer.TheVariants.{Refused}
use Rattle.protocol.specs.Limits.{least_output, code_random, token_random}
use Rattle.protocol.specs.Answers.{status_of, Decision}
use Rattle.protocol.specs.Refusals.{Reason, when, first_of}
use Rattle.protocol.specs.Authorization.{query_client, read_authorization, location_text}
use Rattle.protocol.specs.Token.{read_token, refusal_reply, token_reply, refresh_member, challenges}
use Rattle.protocol.specs.Revocation.{read_revocation, revocation_reply}
use Rattle.protocol.specs.Granting.{Plan, first_handle, second_handle, plan_of, decision_on, slots_after, check_slots}

-- ---- any call

-- what every call is handed besides its own arguments, the registry and the store
pub record Handed : Type 0 where
  pub clock : ℕ
  pub random : List ℕ
  pub output : List ℕ

-- what a call past refusals 1 to 4 comes to: its answer, the text at the start of the output, the store's slots
pub record Served (Answer : Type 0) : Type 0 where
  pub answer : Answer
  pub text : List ℕ
  pub slots : List Slot

-- an endpoint: whether the buffers are unfit, how it answers refusals 1 to 4, and how it serves the calls past them, from
-- the clients, the call's time, the slots and the random bytes
pub record Endpoint (Answer : Type 0) : Type 0 where
  pub unfit : Handed → Bool
  pub refuse : Refusal → Answer
  pub serve : List Client → ℕ → List Slot → List ℕ → Served Answer

pub record Outcome (Answer : Type 0) : Type 0 where
  pub answer : Answer
  pub output : List ℕ
  pub store : List ℕ

-- refusals 1 to 4
abbrev pub unfit_reasons : Bool → List ℕ → List ℕ → ℕ → List Reason
unfit_reasons buffers_unfit registry store clock =
    when buffers_unfit (Unfit Buffers)
    ∷ when (not (fit_registry registry)) (Unfit Registry)
    ∷ when (not (fit_store (length (clients_of registry)) store)) (Unfit Store)
    ∷ when (ltb latest_time clock) (Unfit Clock)
    ∷ []

unfoldable pub admit : Bool → List ℕ → List ℕ → ℕ → Decision
admit buffers_unfit registry store clock = first_of (unfit_reasons buffers_unfit registry store clock)

module _ {Answer : Type 0} (endpoint : Endpoint Answer) (registry store : List ℕ) (handed : Handed) where
  -- "Every call past refusals 1 to 4, whatever it answers, stores T as mark."; "1 to 4 change no byte"
  unfoldable pub outcome_by : Decision → Outcome Answer
  outcome_by (Ok tt) =
      let st = decode store in
      let t = call_time st handed.clock in
      let served = endpoint.serve (clients_of registry) t st.slots handed.random in
      record {
        answer = served.answer;
        output = sets handed.output 0 served.text;
        store = encode (record { time = t; slots = served.slots });
      }
  outcome_by (Err refusal) = record { answer = endpoint.refuse refusal; output = handed.output; store = store }

  unfoldable pub outcome : Outcome Answer
  outcome = outcome_by (admit (endpoint.unfit handed) registry store handed.clock)

-- "output below 1,024, or random bytes not 20 (token: 40)"
abbrev pub unfit_output : List ℕ → Bool
unfit_output output = ltb (length output) least_output

abbrev pub unfit_buffers : ℕ → List ℕ → List ℕ → Bool
unfit_buffers random_size random output = unfit_output output || not (eqb (length random) random_size)

-- ---- the authorization endpoint

unfoldable pub serve_authorization : List ℕ → ℕ → ℕ → List Client → ℕ → List Slot → List ℕ → Served AuthorizationAnswer
serve_authorization query decision farm clients t slots random =
    let plan = plan_of t slots random (read_authorization clients query decision farm) in
    let client = client_at clients (query_client clients query) in
    let text = location_text client.redirect (form_value query (bytes "state")) (first_handle random) (decision_on plan) in
    record { answer = record { decision = decision_on plan; length = length text }; text = text; slots = slots_after plan }

abbrev pub authorization_endpoint : List ℕ → ℕ → ℕ → Endpoint AuthorizationAnswer
authorization_endpoint query decision farm = record {
  unfit = λ handed. unfit_buffers code_random handed.random handed.output;
  refuse = λ refusal. record { decision = Err refusal; length = 0 };
  serve = serve_authorization query decision farm;
}

abbrev pub authorization_outcome : List ℕ → ℕ → ℕ → List ℕ → List ℕ → Handed → Outcome AuthorizationAnswer
authorization_outcome query decision farm registry store handed = outcome (authorization_endpoint query decision farm) registry store handed

-- ---- calls whose clients authenticate

-- the answer to what was decided, with the reply's length, and to refusals 1 to 4
abbrev pub answer_to : List ℕ → Decision → ℕ → TokenAnswer
answer_to header decided long = record { decision = decided; challenge = challenges (status_of decided) header; length = long }

abbrev pub unfit_reply : Refusal → TokenAnswer
unfit_reply refusal = record { decision = Err refusal; challenge = false; length = 0 }

-- what such a call comes to by its plan, with the reply's text
abbrev pub served_by : List ℕ → Plan → List ℕ → Served TokenAnswer
served_by header plan text = record { answer = answer_to header (decision_on plan) (length text); text = text; slots = slots_after plan }

-- ---- the token endpoint

-- the reply to a decision on a plan: "the refresh token stays, and the reply has no refresh_token"
unfoldable pub reply_text : List ℕ → Plan → Decision → List ℕ
reply_text random plan (Ok tt) =
    token_reply (first_handle random) (cond plan.brings_refresh (refresh_member (second_handle random)) []) plan.scope
reply_text random plan (Err refusal) = refusal_reply refusal

unfoldable pub serve_token : List ℕ → List ℕ → List Client → ℕ → List Slot → List ℕ → Served TokenAnswer
serve_token header body clients t slots random =
    let plan = plan_of t slots random (read_token clients header body) in
    served_by header plan (reply_text random plan (decision_on plan))

abbrev pub token_endpoint : List ℕ → List ℕ → Endpoint TokenAnswer
token_endpoint header body = record {
  unfit = λ handed. unfit_buffers token_random handed.random handed.output;
  refuse = unfit_reply;
  serve = serve_token header body;
}

abbrev pub token_outcome : List ℕ → List ℕ → List ℕ → List ℕ → Handed → Outcome TokenAnswer
token_outcome header body registry store handed = outcome (token_endpoint header body) registry store handed

-- ---- the revocation endpoint

-- "It takes no random bytes"
abbrev pub without_random : ℕ → List ℕ → Handed
without_random clock output = record { clock = clock; random = []; output = output }

unfoldable pub serve_revocation : List ℕ → List ℕ → List Client → ℕ → List Slot → List ℕ → Served TokenAnswer
serve_revocation header body clients t slots random =
    let plan = plan_of t slots random (read_revocation clients header body) in
    served_by header plan (revocation_reply (decision_on plan))

-- "refusal 1 is for the output alone"
abbrev pub revocation_endpoint : List ℕ → List ℕ → Endpoint TokenAnswer
revocation_endpoint header body = record {
  unfit = λ handed. unfit_output handed.output;
  refuse = unfit_reply;
  serve = serve_revocation header body;
}

abbrev pub revocation_outcome : List ℕ → List ℕ → List ℕ → List ℕ → ℕ → List ℕ → Outcome TokenAnswer
revocation_outcome header body registry store clock output =
    outcome (revocation_endpoint header body) registry store (without_random clock output)

-- ---- the access token check, which is handed a clock alone and has no refusal 1

abbrev pub clock_alone : ℕ → Handed
clock_alone clock = without_random clock []

unfoldable pub serve_check : List ℕ → List Client → ℕ → List Slot → List ℕ → Served CheckAnswer
serve_check token clients t slots random = record { answer = check_slots t slots (read_handle token); text = []; slots = slots }

abbrev pub check_endpoint : List ℕ → Endpoint CheckAnswer
check_endpoint token = record { unfit = λ handed. false; refuse = Refused; serve = serve_check token }

abbrev pub check_outcome : List ℕ → List ℕ → List ℕ → ℕ → Outcome CheckAnswer
check_outcome token registry store clock = outcome (check_endpoint token) registry store (clock_alone clock)
