-- What one call does, at whichever endpoint: it is refused with 1 to 4 and changes no byte, or it is served on the store that the
-- bytes are read as (`take`).
--
-- In order: refusals 1 to 4; any call; what a call that is past them brings; a call that is served as the plan of its request.
-- Assumes nothing.
use mathlib.Core.Path.{◌≡◌, refl, sym, ap, ◌∙◌}
use mathlib.Core.Bool.{Bool, true, false, cond, not, false≢true}
use mathlib.Core.List.{List, [], ◌∷◌}
use Prim.Native.Nat.{ℕ, ◌≤◌}
use Rattle.std.specs.Prelude.{Ok, Err, Option}
use native.Mathlib.Omega.{arith}
use borrow.Author.Tests.{ltb-false, eqb-true, not-false}
use lib.Dec.{eqb, ltb, lit<}
use lib.ListN.{length}
use lib.Seq.{sets, take_all}
use Rattle.octets.specs.Lists.{Bytes}
use Rattle.encoding.specs.Hex.{read_handle}
use Rattle.client_registry.specs.Registry.{Client, fit_registry, clients_of}
use Rattle.token_store.specs.Layout.{latest_time}
use Rattle.token_store.specs.Store.{Store, is_live, encode, decode, call_time}
use Rattle.token_store.specs.Fit.{fit_store}
use Rattle.token_store.specs.declared.Slot.{Slot}
use Rattle.token_store.specs.declared.Sought.TheVariants.{Access}
use Rattle.protocol.specs.declared.ErrorWord.{ErrorWord}
use Rattle.protocol.specs.declared.ErrorWord.TheVariants.{InvalidRequest, InvalidClient, InvalidGrant, InvalidScope, UnsupportedGrantType, UnsupportedResponseType, AccessDenied, TemporarilyUnavailable, ServerError, UnauthorizedClient}
use Rattle.protocol.specs.declared.Input.{Input}
use Rattle.protocol.specs.declared.Input.TheVariants.{Buffers, Registry, Store as StoreInput, Clock}
use Rattle.protocol.specs.declared.PageCause.TheVariants.{Query}
use Rattle.protocol.specs.declared.Failure.{Failure}
use Rattle.protocol.specs.declared.Failure.TheVariants.{NoRoom, Clash}
use Rattle.protocol.specs.declared.Refusal.TheVariants.{Unfit, ErrorPage, Redirect, Token, Failed}
use Rattle.protocol.specs.declared.Request.{Request}
use Rattle.protocol.specs.declared.Request.TheVariants.{Refused, Code, Exchange, Refresh, Credentials, Revocation}
use Rattle.protocol.specs.declared.Reading.{Reading}
use Rattle.protocol.specs.declared.LiveToken.{LiveToken}
use Rattle.protocol.specs.declared.CheckAnswer.TheVariants.{NotLive, Live}
use Rattle.protocol.specs.Limits.{least_output, code_random, token_random}
use Rattle.protocol.specs.Answers.{is_grant, status_of, word_status, failure_status, Decision}
use Rattle.protocol.specs.Refusals.{Reason, first_of}
use Rattle.protocol.specs.Requests.{refused_reading}
use Rattle.protocol.specs.Authorization.{read_authorization}
use Rattle.protocol.specs.Token.{read_token}
use Rattle.protocol.specs.Revocation.{read_revocation}
use Rattle.protocol.specs.Granting.{Plan, shown_slot, live_token, refused_plan, plan_for, plan_of, decision_on, slots_by, slots_after, check_slots}
use Rattle.protocol.specs.Outcomes.{unfit_reasons, Handed, Endpoint, Outcome, admit, outcome_by, outcome, unfit_output, unfit_buffers, serve_authorization, authorization_endpoint, serve_token, token_endpoint, without_random, serve_revocation, revocation_endpoint, serve_check, check_endpoint, clock_alone}
use Rattle.protocol.proofs.Computing.{plan_definitions}
use Rattle.history.specs.Calls.{Call, authorization, token, revocation, check, handed_to, WellTyped}
use Rattle.history.specs.Server.{Answer, authorization_answer, token_answer, check_answer, answering, outcome_of, is_unfit_refusal, is_unfit_decision, is_unfit_check, is_unfit, is_granted}
use Rattle.history.specs.Contents.{first_twenty, last_twenty, twenties}
use Rattle.history.specs.AnyStore.{unfit_answer, unfit_outcome}
use Rattle.octets.proofs.Booleans.{or-none}
use Rattle.protocol.proofs.Reasons.{unrefused, decided}
use Rattle.history.proofs.Readings.{FitClients, OneHandle, TwoHandles, second-last, Brings, BringsAs, authorization-brings, token-brings, revocation-brings}

-- ---- calls over a store as a record, past refusals 1 to 4

abbrev pub served_on : {A : Type 0} → Endpoint A → List Client → Store → Handed → Outcome A
served_on endpoint clients g handed =
    let t = call_time g handed.clock in
    let served = endpoint.serve clients t g.slots handed.random in
    record {
      answer = served.answer;
      output = sets handed.output 0 served.text;
      store = encode (record { time = t; slots = served.slots });
    }

unfoldable pub outcome_on : List Client → Store → Call → Outcome Answer
outcome_on clients g (authorization query decision farm handed) =
    answering authorization_answer (served_on (authorization_endpoint query decision farm) clients g handed)
outcome_on clients g (token header body handed) = answering token_answer (served_on (token_endpoint header body) clients g handed)
outcome_on clients g (revocation header body clock output) =
    answering token_answer (served_on (revocation_endpoint header body) clients g (without_random clock output))
outcome_on clients g (check presented clock) = answering check_answer (served_on (check_endpoint presented) clients g (clock_alone clock))

-- what a call asks, read from its arguments; a check asks for nothing that could be granted
unfoldable pub asked : List Client → Call → Reading
asked clients (authorization query decision farm handed) = read_authorization clients query decision farm
asked clients (token header body handed) = read_token clients header body
asked clients (revocation header body clock output) = read_revocation clients header body
asked clients (check presented clock) = refused_reading (ErrorPage Query)

-- ---- refusals 1 to 4

-- the call's buffers are unfit
unfoldable pub unfit_to : Call → Bool
unfit_to (authorization query decision farm handed) = unfit_buffers code_random handed.random handed.output
unfit_to (token header body handed) = unfit_buffers token_random handed.random handed.output
unfit_to (revocation header body clock output) = unfit_output output
unfit_to (check presented clock) = false

-- it is past refusals 1 to 4
abbrev pub is_past : List ℕ → List ℕ → Call → Bool
is_past registry store c = is_grant (admit (unfit_to c) registry store (handed_to c).clock)

-- a call's outcome is a refusal with 1 to 4, which changes no byte, or past these that of a call which is served
pub data Taken (past : Bool) (refused : Input → Outcome Answer) (done served : Outcome Answer) : Type 0 where
  unseen : (i : Input) → past ≡ false → done ≡ refused i → Taken past refused done served
  seen : past ≡ true → done ≡ served → Taken past refused done served

abbrev pub TakenCall : List ℕ → List ℕ → Call → Type 0
TakenCall registry store c =
    Taken (is_past registry store c) (unfit_outcome store c) (outcome_of registry store c) (outcome_on (clients_of registry) (decode store) c)

pub refused-unfit : (c : Call) (i : Input) → is_unfit (unfit_answer c i) ≡ true
unfolding unfit_answer is_unfit is_unfit_decision is_unfit_check is_unfit_refusal
refused-unfit (authorization query decision farm handed) i = refl
refused-unfit (token header body handed) i = refl
refused-unfit (revocation header body clock output) i = refl
refused-unfit (check presented clock) i = refl

module _ (registry store : List ℕ) where
  -- at any endpoint
  take_at : {A : Type 0} (tag : A → Answer) (endpoint : Endpoint A) (handed : Handed)
      → Taken (is_grant (admit (endpoint.unfit handed) registry store handed.clock))
      (λ i. record { answer = tag (endpoint.refuse (Unfit i)); output = handed.output; store = store })
      (answering tag (outcome endpoint registry store handed)) (answering tag (served_on endpoint (clients_of registry) (decode store) handed))
  unfolding outcome outcome_by admit is_grant
  take_at tag endpoint handed =
      decided P (unfit_reasons (endpoint.unfit handed) registry store handed.clock)
      (refused Buffers, (refused Registry, (refused StoreInput, (refused Clock, tt)))) (λ _. seen refl refl)
    where
      P : Decision → Type 0
      P d =
          Taken (is_grant d) (λ i. record { answer = tag (endpoint.refuse (Unfit i)); output = handed.output; store = store })
          (answering tag (outcome_by endpoint registry store handed d))
          (answering tag (served_on endpoint (clients_of registry) (decode store) handed))

      refused : (i : Input) → P (Err (Unfit i))
      refused i = unseen i refl refl

  pub take : (c : Call) → TakenCall registry store c
  unfolding handed_to unfit_to unfit_answer outcome_of outcome_on
  take (authorization query decision farm handed) = take_at authorization_answer (authorization_endpoint query decision farm) handed
  take (token header body handed) = take_at token_answer (token_endpoint header body) handed
  take (revocation header body clock output) = take_at token_answer (revocation_endpoint header body) (without_random clock output)
  take (check presented clock) = take_at check_answer (check_endpoint presented) (clock_alone clock)

  module _ (c : Call) where
    pub seen-past : is_unfit (outcome_of registry store c).answer ≡ false
        → (is_past registry store c ≡ true) × (outcome_of registry store c ≡ outcome_on (clients_of registry) (decode store) c)
    seen-past fit = by (take c)
      where
        by : TakenCall registry store c
            → (is_past registry store c ≡ true) × (outcome_of registry store c ≡ outcome_on (clients_of registry) (decode store) c)
        by (unseen i n e) = absurd (false≢true (sym fit ∙ ap (λ (o : Outcome Answer). is_unfit o.answer) e ∙ refused-unfit c i))
        by (seen p e) = (p, e)

    pub past-seen : is_past registry store c ≡ true → outcome_of registry store c ≡ outcome_on (clients_of registry) (decode store) c
    past-seen past = by (take c)
      where
        by : TakenCall registry store c → outcome_of registry store c ≡ outcome_on (clients_of registry) (decode store) c
        by (unseen i n e) = absurd (false≢true (sym n ∙ past))
        by (seen p e) = e

  -- ---- what a call that is past refusals 1 to 4 has

  module _ (c : Call) (past : is_past registry store c ≡ true) where
    abbrev reasons : List Reason
    reasons = unfit_reasons (unfit_to c) registry store (handed_to c).clock

    pub past-buffers : unfit_to c ≡ false
    unfolding admit
    past-buffers = unrefused reasons past 0 (lit< tt)

    pub past-registry : fit_registry registry ≡ true
    unfolding admit
    past-registry = not-false (fit_registry registry) (unrefused reasons past 1 (lit< tt))

    pub past-store : fit_store (length (clients_of registry)) store ≡ true
    unfolding admit
    past-store = not-false (fit_store (length (clients_of registry)) store) (unrefused reasons past 2 (lit< tt))

    pub past-clock : (handed_to c).clock ≤ latest_time
    unfolding admit
    past-clock = ltb-false latest_time (handed_to c).clock (unrefused reasons past 3 (lit< tt))

pub fit-size : (n : ℕ) (handed : Handed) → unfit_buffers n handed.random handed.output ≡ false → length handed.random ≡ n
fit-size n handed e =
    let sized = eqb (length handed.random) n in
    eqb-true (length handed.random) n (not-false sized (or-none (ltb (length handed.output) least_output) (not sized) e).1)

two-handles : (handed : Handed) → Bytes handed.random → unfit_buffers token_random handed.random handed.output ≡ false
    → TwoHandles handed.random (first_twenty handed.random ∷ last_twenty handed.random ∷ [])
two-handles handed small e =
    let size = fit-size token_random handed e in record { size = size; small = small; handles = rw (second-last handed.random size) }

pub call-brings : (clients : List Client) → FitClients clients → (c : Call) → WellTyped c → unfit_to c ≡ false
    → BringsAs (length clients) (handed_to c).random (twenties c) (asked clients c)
unfolding asked unfit_to handed_to twenties Brings is_unfit_refusal
call-brings clients fit (authorization query decision farm handed) typed e =
    let size = fit-size code_random handed e in
    let one : OneHandle handed.random (handed.random ∷ []) = record { size = size; small = typed.1; handles = rw (take_all 20 handed.random (omega arith)) } in
    authorization-brings clients fit one query decision farm typed.0
call-brings clients fit (token header body handed) typed e = token-brings clients fit (two-handles handed typed e) header body
call-brings clients fit (revocation header body clock output) typed e = revocation-brings clients [] [] header body
call-brings clients fit (check presented clock) typed e = refl

-- ---- a call that is served, as the plan of its request

-- status 200 is a grant's alone
word-status : (w : ErrorWord) → eqb (word_status w) 200 ≡ false
word-status InvalidRequest = refl
word-status InvalidClient = refl
word-status InvalidGrant = refl
word-status InvalidScope = refl
word-status UnsupportedGrantType = refl
word-status UnsupportedResponseType = refl
word-status AccessDenied = refl
word-status TemporarilyUnavailable = refl
word-status ServerError = refl
word-status UnauthorizedClient = refl

failure-status : (f : Failure) → eqb (failure_status f) 200 ≡ false
failure-status NoRoom = refl
failure-status Clash = refl

-- status 200 is that of a grant
pub status-grant : (d : Decision) → eqb (status_of d) 200 ≡ is_grant d
unfolding is_grant
status-grant (Ok tt) = refl
status-grant (Err (Unfit i)) = refl
status-grant (Err (ErrorPage p)) = refl
status-grant (Err (Redirect w)) = refl
status-grant (Err (Token w)) = word-status w
status-grant (Err (Failed f)) = failure-status f

-- what is decided is no refusal with 1 to 4
plan-fit : (clients : ℕ) (twenties : List (List ℕ)) (t : ℕ) (slots : List Slot) (random : List ℕ) (p d : Option (List ℕ)) (request : Request)
    → Brings clients random twenties d request → is_unfit_decision (decision_on (plan_for t slots random p d request)) ≡ false
unfolding plan_definitions Brings is_unfit_decision is_unfit_refusal
plan-fit clients twenties t slots random p d (Refused r) q = decided (λ made. is_unfit_decision made ≡ false) _ (q, tt) (λ _. refl)
plan-fit clients twenties t slots random p d (Code r) q = decided (λ made. is_unfit_decision made ≡ false) _ (refl, (refl, tt)) (λ _. refl)
plan-fit clients twenties t slots random p d (Exchange r) q =
    decided (λ made. is_unfit_decision made ≡ false) _ (refl, (refl, (refl, (refl, (refl, tt))))) (λ _. refl)
plan-fit clients twenties t slots random p d (Refresh r) q = decided (λ made. is_unfit_decision made ≡ false) _ (refl, (refl, (refl, (refl, tt)))) (λ _. refl)
plan-fit clients twenties t slots random p d (Credentials r) q = decided (λ made. is_unfit_decision made ≡ false) _ (refl, (refl, tt)) (λ _. refl)
plan-fit clients twenties t slots random p d (Revocation r) q = decided (λ made. is_unfit_decision made ≡ false) _ (refl, tt) (λ _. refl)

refused-keeps : (plan : Plan) → is_grant (decision_on plan) ≡ false → slots_after plan ≡ plan.denied
unfolding slots_by is_grant
refused-keeps plan = by (decision_on plan)
  where
    by : (d : Decision) → is_grant d ≡ false → slots_by d plan ≡ plan.denied
    by (Ok tt) e = absurd (false≢true (sym e))
    by (Err r) e = refl

live-fit : (b : Bool) (l : LiveToken) → is_unfit_check (cond b (Live l) NotLive) ≡ false
unfolding is_unfit_check
live-fit true l = refl
live-fit false l = refl

module _ (clients : List Client) (g : Store) where
  abbrev pub plan_on : Call → Plan
  plan_on c = plan_of (call_time g (handed_to c).clock) g.slots (handed_to c).random (asked clients c)

  -- the store that it leaves
  abbrev pub left_by : Call → Store
  left_by c = record { time = call_time g (handed_to c).clock; slots = slots_after (plan_on c) }

  pub store-on : (c : Call) → (outcome_on clients g c).store ≡ encode (left_by c)
  unfolding outcome_on asked handed_to serve_authorization serve_token serve_revocation serve_check plan_for refused_plan slots_by first_of
  store-on (authorization query decision farm handed) = refl
  store-on (token header body handed) = refl
  store-on (revocation header body clock output) = refl
  store-on (check presented clock) = refl

  pub granted-on : (c : Call) → is_granted (outcome_on clients g c).answer ≡ is_grant (decision_on (plan_on c))
  unfolding outcome_on asked handed_to serve_authorization serve_token serve_revocation is_granted is_grant plan_for refused_plan first_of
  granted-on (authorization query decision farm handed) = refl
  granted-on (token header body handed) = status-grant (decision_on (plan_on (token header body handed)))
  granted-on (revocation header body clock output) = status-grant (decision_on (plan_on (revocation header body clock output)))
  granted-on (check presented clock) = refl

  -- one that is not granted leaves what its plan says
  pub refused-left : (c : Call) → is_granted (outcome_on clients g c).answer ≡ false → (left_by c).slots ≡ (plan_on c).denied
  refused-left c e = refused-keeps (plan_on c) (sym (granted-on c) ∙ e)

  pub fit_on : (c : Call) → BringsAs (length clients) (handed_to c).random (twenties c) (asked clients c)
      → is_unfit (outcome_on clients g c).answer ≡ false
  unfolding outcome_on asked handed_to serve_authorization serve_token serve_revocation serve_check is_unfit check_slots
  fit_on (authorization query decision farm handed) q = plan-fit (length clients) _ _ g.slots handed.random _ _ _ q
  fit_on (token header body handed) q = plan-fit (length clients) _ _ g.slots handed.random _ _ _ q
  fit_on (revocation header body clock output) q = plan-fit (length clients) _ _ g.slots [] _ _ _ q
  fit_on (check presented clock) q =
      let s = shown_slot Access (read_handle presented) g.slots in live-fit (is_live (call_time g clock) s) (live_token (call_time g clock) s)
