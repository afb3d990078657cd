-- Granting: what the store grants to a request, and what that leaves in its slots: one plan for each request.
--
-- `t` is the call's time T, the larger of the clock and the store's time. `random` is the call's random bytes.
use Rattle.std.specs.Prelude.{ℕ, ◌+◌, ◌-◌, Bool, true, false, cond, not, ◌&&◌, ◌||◌, List, [], ◌∷◌, ◌++◌, leb, eqb, take, drop, Option, is_some, unwrap_or, Ok, Err}
use Rattle.octets.specs.Lists.{same}
use Rattle.encoding.specs.Hex.{presents}
use Rattle.token_store.specs.Layout.{handle_size}
use Rattle.octets.specs.Search.{count, any, first_or, replace_first, replace_all}
use Rattle.token_store.specs.Store.{kind_access, kind_refresh, code_kind, is_bound_code, is_challenged, is_live, is_vacant, holds, sought_key, is_sought, no_link, link_to, origin_of, free_slot, spent_code, without_tokens, lifetime_of, issue}
use Rattle.token_store.specs.declared.Slot.{Slot}
use Rattle.token_store.specs.declared.Sought.{Sought}
use Rattle.token_store.specs.declared.Sought.TheVariants.{Code as sought_code, Spent as sought_spent, Access as sought_access, Refresh as sought_refresh, Token as sought_token}
use Rattle.protocol.specs.declared.ErrorWord.TheVariants.{InvalidGrant, InvalidScope, TemporarilyUnavailable, ServerError}
use Rattle.protocol.specs.declared.Refusal.{Refusal}
use Rattle.protocol.specs.declared.Refusal.TheVariants.{Redirect, Token, Failed}
use Rattle.protocol.specs.declared.Failure.TheVariants.{NoRoom, Clash}
use Rattle.protocol.specs.Answers.{Decision}
use Rattle.protocol.specs.declared.CodeRequest.{CodeRequest}
use Rattle.protocol.specs.declared.ExchangeRequest.{ExchangeRequest}
use Rattle.protocol.specs.declared.RefreshRequest.{RefreshRequest}
use Rattle.protocol.specs.declared.CredentialsRequest.{CredentialsRequest}
use Rattle.protocol.specs.declared.RevocationRequest.{RevocationRequest}
use Rattle.protocol.specs.declared.Request.{Request}
use Rattle.protocol.specs.declared.Request.TheVariants.{Refused, Code, Exchange, Refresh, Credentials, Revocation}
use Rattle.protocol.specs.declared.Reading.{Reading}
use Rattle.protocol.specs.declared.LiveToken.{LiveToken}
use Rattle.protocol.specs.declared.CheckAnswer.{CheckAnswer}
use Rattle.protocol.specs.declared.CheckAnswer.TheVariants.{NotLive, Live}
use Rattle.protocol.specs.Refusals.{Reason, when, first_of}
use Rattle.protocol.specs.Requests.{fits, scope_given, no_farm}

-- ---- handles and slots

-- "issues access (first 20 random bytes) and refresh (last 20)"
abbrev pub first_handle : List ℕ → List ℕ
first_handle random = take handle_size random

abbrev pub second_handle : List ℕ → List ℕ
second_handle random = take handle_size (drop handle_size random)

-- "A look-up takes the lowest slot of the right kind and handle"; a free slot where there is none, which is never live
abbrev pub shown_slot : Sought → Option (List ℕ) → List Slot → Slot
shown_slot sought presented slots = first_or free_slot (sought_key sought presented) slots

-- "Keep an exchanged code as kind 5, spent, until its old expiry."
abbrev pub with_spent : Option (List ℕ) → List Slot → List Slot
with_spent presented slots =
    replace_first (sought_key sought_code presented) (spent_code (shown_slot sought_code presented slots)) slots

-- how many slots are free or have run out
abbrev pub room : ℕ → List Slot → ℕ
room t slots = count (is_vacant t) slots

-- "equals that of any slot in use", run out or not
abbrev pub is_taken : List ℕ → List Slot → Bool
is_taken handle slots = any (holds handle) slots

-- "a handle to be issued equals that of any slot in use, or two to be issued are equal"
abbrev pub any_taken : List ℕ → List ℕ → List Slot → Bool
any_taken first second slots = is_taken first slots || is_taken second slots || same first second

-- "not found, run out, other client" do not apply
abbrev pub is_own : ℕ → ℕ → Slot → Bool
is_own t client s = is_live t s && eqb s.client client

-- "An exchange whose verifier is missing, malformed .. or of another digest"; "a verifier for a code without challenge .. is ignored"
abbrev pub is_unverified : Option (List ℕ) → Slot → Bool
is_unverified answered code = is_challenged code && not (presents answered code.link)

-- "the same client, authenticated, presents a live spent code (sought only where no unspent code has its handle)": of the
-- spent codes with its handle the lowest counts
abbrev pub is_shown_again : ℕ → ℕ → Option (List ℕ) → List Slot → Bool
is_shown_again t client presented slots =
    not (any (sought_key sought_code presented) slots) && is_own t client (shown_slot sought_spent presented slots)

-- a token that came from the code presented
abbrev pub is_issued_on : Option (List ℕ) → Slot → Bool
is_issued_on presented s = is_sought sought_token s && presents presented (origin_of s)

-- the slots without the tokens that came from the code presented
abbrev pub without_issued_on : Option (List ℕ) → List Slot → List Slot
without_issued_on presented slots = replace_all free_slot (is_issued_on presented) slots

-- what an exchange that is refused leaves: "every token with that origin is cleared", where a code is shown again
abbrev pub refused_slots : ℕ → ℕ → Option (List ℕ) → List Slot → List Slot
refused_slots t client presented slots = cond (is_shown_again t client presented slots) (without_issued_on presented slots) slots

-- the slots without the token presented: "an access token is cleared, or a refresh token together with all access tokens of its
-- origin"
abbrev pub without_shown : Option (List ℕ) → List Slot → List Slot
without_shown presented slots =
    let token = shown_slot sought_token presented slots in
    let others = replace_first (sought_key sought_token presented) free_slot slots in
    cond (eqb token.kind kind_refresh) (without_tokens sought_access (origin_of token) others) others

-- what a revocation that is not refused leaves: "An unknown or run-out token (kinds 3 and 4 looked up together)" changes nothing
abbrev pub revoked_slots : ℕ → Option (List ℕ) → List Slot → List Slot
revoked_slots t presented slots = cond (is_live t (shown_slot sought_token presented slots)) (without_shown presented slots) slots

-- "A code holds its client, the farm the owner allowed and the scope granted"; "Expiry is T plus 600 (code) .."; "Codes with a
-- challenge are kinds 6 and 7 (without and with bound redirect) and hold its 32 bytes", which are zero where there is none
abbrev pub new_code : ℕ → List ℕ → Option (List ℕ) → CodeRequest → Slot
new_code t handle challenge r =
    let kind = code_kind r.bound (is_some challenge) in
    record {
      kind = kind;
      handle = handle;
      client = r.client;
      farm = r.farm;
      scope = r.scope;
      expiry = t + lifetime_of kind;
      link = unwrap_or challenge no_link;
    }

-- "a token takes client and farm, and its scope unless a refresh asks for less, from the code or refresh token that it
-- is issued on"; "Each access and refresh token records the handle of the code it came from"
abbrev pub token_on : Slot → List ℕ → ℕ → ℕ → List ℕ → ℕ → Slot
token_on shown origin t kind handle scope = record {
  kind = kind;
  handle = handle;
  client = shown.client;
  farm = shown.farm;
  scope = scope;
  expiry = t + lifetime_of kind;
  link = link_to origin;
}

-- an access token of the client for itself. "Such tokens carry farm 0"; "tokens of Wish 1 record their own" handle
abbrev pub client_token : ℕ → List ℕ → CredentialsRequest → Slot
client_token t handle r = record {
  kind = kind_access;
  handle = handle;
  client = r.client;
  farm = no_farm;
  scope = r.scope;
  expiry = t + lifetime_of kind_access;
  link = link_to handle;
}

-- ---- plans

pub record Plan : Type 0 where
  -- why the request is refused, in the order in which the reasons count
  pub reasons : List Reason
  -- the slots after a grant, and after a refusal
  pub granted : List Slot
  pub denied : List Slot
  -- the scope of what is issued, 0 where nothing is, and whether a refresh token is
  pub scope : ℕ
  pub brings_refresh : Bool

-- a plan with more reasons, which count before its own
abbrev pub after_reasons : List Reason → Plan → Plan
after_reasons rs plan = record {
  reasons = rs ++ plan.reasons;
  granted = plan.granted;
  denied = plan.denied;
  scope = plan.scope;
  brings_refresh = plan.brings_refresh;
}

-- a single code or token: it takes one slot, and its handle must not be "that of any slot in use", run out or not
abbrev pub single_plan : ℕ → List Slot → Refusal → Refusal → Slot → Plan
single_plan t slots full clash new = record {
  reasons = when (not (leb 1 (room t slots))) full ∷ when (is_taken new.handle slots) clash ∷ [];
  granted = issue t new slots;
  denied = slots;
  scope = new.scope;
  brings_refresh = false;
}

-- a single access token. "Status 503, empty: fewer slots free or run out than needed. Status 500, empty: a handle to be issued
-- equals that of any slot in use"
abbrev pub access_plan : ℕ → List Slot → Slot → Plan
access_plan t slots access = single_plan t slots (Failed NoRoom) (Failed Clash) access

-- "A call that issues a single token takes the first 20 random bytes and ignores the last 20."
module _ (t : ℕ) (slots : List Slot) (random : List ℕ) where
  -- a call that was refused before the store is looked at
  unfoldable pub refused_plan : Refusal → Plan
  refused_plan refusal = record { reasons = when true refusal ∷ []; granted = slots; denied = slots; scope = 0; brings_refresh = false }

  -- "`temporarily_unavailable` (no slot), `server_error` (random bytes equal to the handle of any slot in use, run out or not)"
  unfoldable pub code_plan : Option (List ℕ) → CodeRequest → Plan
  code_plan challenge r =
      single_plan t slots (Redirect TemporarilyUnavailable) (Redirect ServerError) (new_code t (first_handle random) challenge r)

  -- "`invalid_grant` (not found, run out, other client; for kind 2, redirect_uri missing or not equal to the registered one)", for
  -- kind 7 likewise; "An exchange whose verifier is missing, malformed .. or of another digest is `invalid_grant` and spends nothing"
  -- .. "Status 503, empty: fewer slots free or run out than needed. Status 500, empty: a handle to be issued equals that of
  -- any slot in use, or two to be issued are equal." An exchange keeps its code as spent, then "issues access (first 20
  -- random bytes) and refresh (last 20)"; "an exchange's own slot is no longer free for 503". Of a code shown again "the answer is
  -- still `invalid_grant`, redirect not looked at, and every token with that origin is cleared": it is not found among the unspent
  unfoldable pub exchange_plan : Option (List ℕ) → Option (List ℕ) → ExchangeRequest → Plan
  exchange_plan presented answered r =
      let code = shown_slot sought_code presented slots in
      let access = token_on code code.handle t kind_access (first_handle random) code.scope in
      let refresh = token_on code code.handle t kind_refresh (second_handle random) code.scope in
      record {
        reasons =
            when (not (is_own t r.client code)) (Token InvalidGrant)
            ∷ when (is_bound_code code && not r.again) (Token InvalidGrant)
            ∷ when (is_unverified answered code) (Token InvalidGrant)
            ∷ when (not (leb 2 (room t slots))) (Failed NoRoom)
            ∷ when (any_taken (first_handle random) (second_handle random) slots) (Failed Clash)
            ∷ [];
        granted = issue t refresh (issue t access (with_spent presented slots));
        denied = refused_slots t r.client presented slots;
        scope = code.scope;
        brings_refresh = true;
      }

  -- "`invalid_grant` (not found, run out, other client) .. `invalid_scope` (refresh: bad form, unknown name, or beyond the
  -- granted set)". "A refresh issues one access token with the asked scope, or the granted one; the refresh token stays". The access
  -- token came from the code that the refresh token came from
  unfoldable pub refresh_plan : Option (List ℕ) → RefreshRequest → Plan
  refresh_plan presented r =
      let token = shown_slot sought_refresh presented slots in
      after_reasons
      (when (not (is_own t r.client token)) (Token InvalidGrant) ∷ when (not (fits r.scope token.scope)) (Token InvalidScope) ∷ [])
      (access_plan t slots (token_on token (origin_of token) t kind_access (first_handle random) (scope_given r.scope token.scope)))

  -- "no refresh token, one slot"
  unfoldable pub credentials_plan : CredentialsRequest → Plan
  credentials_plan r = access_plan t slots (client_token t (first_handle random) r)

  -- "a live token of another client is `invalid_grant`"
  unfoldable pub revocation_plan : Option (List ℕ) → RevocationRequest → Plan
  revocation_plan presented r =
      let token = shown_slot sought_token presented slots in
      record {
        reasons = when (is_live t token && not (eqb token.client r.client)) (Token InvalidGrant) ∷ [];
        granted = revoked_slots t presented slots;
        denied = slots;
        scope = 0;
        brings_refresh = false;
      }

  unfoldable pub plan_for : Option (List ℕ) → Option (List ℕ) → Request → Plan
  plan_for presented challenge (Refused refusal) = refused_plan refusal
  plan_for presented challenge (Code r) = code_plan challenge r
  plan_for presented challenge (Exchange r) = exchange_plan presented challenge r
  plan_for presented challenge (Refresh r) = refresh_plan presented r
  plan_for presented challenge (Credentials r) = credentials_plan r
  plan_for presented challenge (Revocation r) = revocation_plan presented r

  abbrev pub plan_of : Reading → Plan
  plan_of reading = plan_for reading.presented reading.challenge reading.request

-- ---- what is decided, and what that leaves: "a refusal past 4 changes no ledger byte but the mark", but for the one of a code
-- that is shown again

abbrev pub decision_on : Plan → Decision
decision_on plan = first_of plan.reasons

unfoldable pub slots_by : Decision → Plan → List Slot
slots_by (Ok tt) plan = plan.granted
slots_by (Err refusal) plan = plan.denied

abbrev pub slots_after : Plan → List Slot
slots_after plan = slots_by (decision_on plan) plan

-- ---- the check

-- "The gate answers with what the token's slot holds"; seconds left are its expiry less T
abbrev pub live_token : ℕ → Slot → LiveToken
live_token t s = record { client = s.client; farm = s.farm; scope = s.scope; left = s.expiry - t }

unfoldable pub check_slots : ℕ → List Slot → Option (List ℕ) → CheckAnswer
check_slots t slots presented =
    let s = shown_slot sought_access presented slots in cond (is_live t s) (Live (live_token t s)) NotLive
