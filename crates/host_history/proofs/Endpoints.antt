-- What each endpoint can decide, for every input: the authorization endpoint refuses by a number, a page or a redirect, the token
-- endpoint by a number, a word with its status or a failure, the revocation endpoint by a number or a word with its status, the check by a
-- number that is not 1.
--
-- An endpoint answers refusals 1 to 4 or serves the call (`answered`); what is served is decided by the first reason of the reading
-- or of the request's plan, and each of these has a refusal of the endpoint's own.
-- Assumes nothing.
use mathlib.Core.Path.{◌≡◌, refl}
use mathlib.Core.Bool.{Bool, true, false, cond, not}
use mathlib.Core.List.{List, [], ◌∷◌, ◌++◌}
use Prim.Native.Nat.{ℕ}
use Rattle.std.specs.Prelude.{Option, None}
use lib.Dec.{ltb}
use lib.ListN.{length}
use Rattle.octets.specs.Text.{bytes}
use Rattle.form.specs.Content.{form_value, is_missing, only_value, is_once}
use Rattle.client_registry.specs.Registry.{Client, fit_registry, clients_of}
use Rattle.client_registry.specs.Lookup.{client_at}
use Rattle.token_store.specs.declared.Slot.{Slot}
use Rattle.token_store.specs.Layout.{latest_time}
use Rattle.token_store.specs.Fit.{fit_store}
use Rattle.token_store.specs.Store.{is_live, call_time, decode}
use Rattle.token_store.specs.declared.Sought.TheVariants.{Access as sought_access}
use Rattle.encoding.specs.Hex.{read_handle}
use Rattle.protocol.specs.declared.Input.{Input}
use Rattle.protocol.specs.declared.Input.TheVariants.{Buffers, Registry, Store, Clock}
use Rattle.protocol.specs.declared.Refusal.TheVariants.{Unfit, Token}
use Rattle.protocol.specs.Answers.{Decision}
use Rattle.protocol.specs.declared.CheckAnswer.TheVariants.{NotLive, Live}
use Rattle.protocol.specs.declared.ErrorWord.TheVariants.{InvalidRequest}
use Rattle.protocol.specs.declared.ExchangeRequest.{ExchangeRequest}
use Rattle.protocol.specs.declared.RefreshRequest.{RefreshRequest}
use Rattle.protocol.specs.declared.CredentialsRequest.{CredentialsRequest}
use Rattle.protocol.specs.declared.Reading.{Reading}
use Rattle.protocol.specs.declared.Request.TheVariants.{Exchange, Refresh, Credentials, Revocation}
use Rattle.protocol.specs.Requests.{unless_refused, presenting_none}
use Rattle.protocol.specs.Authorization.{query_client, page_reasons, redirect_reasons, code_reading, read_authorization}
use Rattle.protocol.specs.ClientForms.{call_client, form_reasons}
use Rattle.protocol.specs.Token.{read_exchange, read_refresh, credentials_reasons, read_credentials, read_grant, token_names, read_token}
use Rattle.protocol.specs.Revocation.{revocation_names, read_revocation}
use Rattle.protocol.specs.Refusals.{Reason, when, first_of}
use Rattle.protocol.specs.Granting.{Plan, refused_plan, code_plan, exchange_plan, refresh_plan, credentials_plan, revocation_plan, plan_for, plan_of, decision_on, shown_slot, live_token, check_slots}
use Rattle.protocol.specs.Outcomes.{Handed, without_random, clock_alone, Endpoint, unfit_reasons, admit, outcome_by, outcome, serve_authorization, serve_token, serve_revocation, serve_check, authorization_outcome, token_outcome, revocation_outcome, check_outcome, authorization_endpoint, token_endpoint, revocation_endpoint, check_endpoint}
use Rattle.protocol.proofs.Reasons.{decided}
use Rattle.history.specs.Server.{is_unfit_refusal}
use Rattle.host_history.specs.Cases.{of_authorization, of_token, of_revocation, of_check}

-- ---- any endpoint

-- what holds of refusals 1 to 4 and of whatever is served holds of the answer
answered : {A : Type 0} (endpoint : Endpoint A) (registry store : List ℕ) (handed : Handed) (P : A → Type 0)
    → ((i : Input) → P (endpoint.refuse (Unfit i)))
    → ((t : ℕ) (slots : List Slot) → P (endpoint.serve (clients_of registry) t slots handed.random).answer)
    → P (outcome endpoint registry store handed).answer
unfolding outcome outcome_by admit
answered endpoint registry store handed P unfit served =
    decided (λ d. P (outcome_by endpoint registry store handed d).answer)
    (unfit_reasons (endpoint.unfit handed) registry store handed.clock)
    (unfit Buffers, (unfit Registry, (unfit Store, (unfit Clock, tt)))) (λ _. served _ _)

-- ---- the authorization endpoint

pub authorization-decides : (query : List ℕ) (decision farm : ℕ) (registry store : List ℕ) (handed : Handed)
    → of_authorization (authorization_outcome query decision farm registry store handed).answer.decision ≡ true
unfolding serve_authorization read_authorization page_reasons redirect_reasons unless_refused plan_for refused_plan code_plan first_of of_authorization
authorization-decides query decision farm registry store handed =
    let clients = clients_of registry in
    let client = client_at clients (query_client clients query) in
    answered (authorization_endpoint query decision farm) registry store handed (λ a. of_authorization a.decision ≡ true) (λ i. refl)
    (λ t slots.
    let plan : Reading → Plan = plan_of t slots handed.random in
    let reading : Reading = code_reading clients query farm in
    decided (λ d. of_authorization (decision_on (plan (unless_refused d reading))) ≡ true)
    (page_reasons clients query ++ redirect_reasons client query decision farm) (refl, (refl, (refl, (refl, (refl, (refl, (refl, tt)))))))
    (λ _. decided (λ d. of_authorization d ≡ true) (plan reading).reasons (refl, (refl, tt)) (λ _. refl)))

-- ---- the token endpoint

module _ (t : ℕ) (slots : List Slot) (random : List ℕ) where
  abbrev Decides : Reading → Type 0
  Decides reading = of_token (decision_on (plan_of t slots random reading)) ≡ true

  either : (b : Bool) (x y : Reading) → Decides x → Decides y → Decides (cond b x y)
  either true x y p q = p
  either false x y p q = q

  exchange-decides : (presented answered : Option (List ℕ)) (r : ExchangeRequest)
      → Decides (record { request = Exchange r; presented = presented; challenge = answered })
  unfolding plan_for exchange_plan of_token
  exchange-decides presented answered r =
      decided (λ d. of_token d ≡ true) (exchange_plan t slots random presented answered r).reasons
      (refl, (refl, (refl, (refl, (refl, tt))))) (λ _. refl)

  refresh-decides : (presented : Option (List ℕ)) (r : RefreshRequest)
      → Decides (record { request = Refresh r; presented = presented; challenge = None })
  unfolding plan_for refresh_plan of_token
  refresh-decides presented r =
      decided (λ d. of_token d ≡ true) (refresh_plan t slots random presented r).reasons (refl, (refl, (refl, (refl, tt)))) (λ _. refl)

  credentials-decides : (r : CredentialsRequest) → Decides (presenting_none (Credentials r))
  unfolding plan_for credentials_plan of_token
  credentials-decides r =
      decided (λ d. of_token d ≡ true) (credentials_plan t slots random r).reasons (refl, (refl, tt)) (λ _. refl)

  token-read : (clients : List Client) (header body : List ℕ) → Decides (read_token clients header body)
  unfolding read_token read_grant read_exchange read_refresh read_credentials form_reasons unless_refused plan_for refused_plan first_of of_token
  token-read clients header body =
      let grant = form_value body (bytes "grant_type") in
      let client = client_at clients (call_client clients header body) in
      let P : Reading → Decision → Type 0 = λ reading d. Decides (unless_refused d reading) in
      let missing : List ℕ → List Reason = λ name. when (is_missing (form_value body name)) (Token InvalidRequest) ∷ [] in
      decided (P _) (form_reasons token_names (bytes "grant_type") clients header body) (refl, (refl, tt))
      (λ _. either (is_once (bytes "authorization_code") grant) _ _
      (decided (P _) (missing (bytes "code")) (refl, tt) (λ _. exchange-decides _ _ _))
      (either (is_once (bytes "refresh_token") grant) _ _
      (decided (P _) (missing (bytes "refresh_token")) (refl, tt) (λ _. refresh-decides _ _))
      (either (is_once (bytes "client_credentials") grant) _ _
      (decided (P _) (credentials_reasons client body) (refl, (refl, tt)) (λ _. credentials-decides _)) refl)))

pub token-decides : (header body registry store : List ℕ) (handed : Handed)
    → of_token (token_outcome header body registry store handed).answer.decision ≡ true
unfolding serve_token of_token
token-decides header body registry store handed =
    answered (token_endpoint header body) registry store handed (λ a. of_token a.decision ≡ true) (λ i. refl)
    (λ t slots. token-read t slots handed.random (clients_of registry) header body)

-- ---- the revocation endpoint

pub revocation-decides : (header body registry store : List ℕ) (clock : ℕ) (output : List ℕ)
    → of_revocation (revocation_outcome header body registry store clock output).answer.decision ≡ true
unfolding serve_revocation read_revocation form_reasons unless_refused plan_for refused_plan revocation_plan first_of of_revocation
revocation-decides header body registry store clock output =
    let clients = clients_of registry in
    let reading : Reading = record {
      request = Revocation (record { client = call_client clients header body });
      presented = read_handle (only_value (form_value body (bytes "token")));
      challenge = None;
    }
    in
    answered (revocation_endpoint header body) registry store (without_random clock output) (λ a. of_revocation a.decision ≡ true) (λ i. refl)
    (λ t slots.
    decided (λ d. of_revocation (decision_on (plan_of t slots [] (unless_refused d reading))) ≡ true)
    (form_reasons revocation_names (bytes "token") clients header body) (refl, (refl, tt))
    (λ _. decided (λ d. of_revocation d ≡ true) (plan_of t slots [] reading).reasons (refl, tt) (λ _. refl)))

-- ---- the check

slots-decide : (t : ℕ) (slots : List Slot) (presented : Option (List ℕ)) → of_check (check_slots t slots presented) ≡ true
unfolding check_slots of_check
slots-decide t slots presented =
    let s = shown_slot sought_access presented slots in by s (is_live t s)
  where
    by : (s : Slot) (b : Bool) → of_check (cond b (Live (live_token t s)) NotLive) ≡ true
    by s true = refl
    by s false = refl

pub check-decides : (presented registry store : List ℕ) (clock : ℕ) → of_check (check_outcome presented registry store clock).answer ≡ true
unfolding outcome outcome_by admit first_of serve_check of_check is_unfit_refusal
check-decides presented registry store clock =
    decided (λ d. of_check (outcome_by (check_endpoint presented) registry store (clock_alone clock) d).answer ≡ true)
    (when (not (fit_registry registry)) (Unfit Registry)
    ∷ when (not (fit_store (length (clients_of registry)) store)) (Unfit Store)
    ∷ when (ltb latest_time clock) (Unfit Clock)
    ∷ [])
    (refl, (refl, (refl, tt)))
    (λ _. slots-decide (call_time (decode store) clock) (decode store).slots (read_handle presented))
