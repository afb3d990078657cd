-- What a list of calls contains. "What the calls contain is read from their arguments and answers, never from the ledger."
--
-- These definitions are the claim's own: they take the texts of a query, a header, a body and an answer, and share with the
-- server only how a form, a scope value, base64 and a registry are read, and which forms and clients are refused.
use Rattle.std.specs.Prelude.{ℕ, ◌+◌, ◌≤◌, max, Bool, true, false, cond, not, ◌&&◌, ◌||◌, List, [], ◌∷◌, ◌++◌, map, eqb, ltb, length, take, drop, replicate, Option, Some, None}
use Rattle.octets.specs.Text.{bytes}
use Rattle.octets.specs.Lists.{part, every, same, index_of}
use Rattle.octets.specs.Search.{count, any, first_or, keep}
use Rattle.encoding.specs.Hex.{hex_text}
use Rattle.encoding.specs.Base64.{standard, base64_bytes}
use Rattle.form_coding.specs.Coding.{decode}
use Rattle.form.specs.Content.{Value, missing, once, repeated, form_value, only_value, is_once}
use Rattle.scope.specs.Set.{has}
use Rattle.scope.specs.Value.{read_scope}
use Rattle.scope.specs.declared.Scope.{Scope}
use Rattle.client_registry.specs.Registry.{Client}
use Rattle.client_registry.specs.Lookup.{number_of, client_at}
use Rattle.protocol.specs.ClientForms.{is_invalid_form, is_invalid_client}
use Rattle.protocol.specs.Token.{token_names}
use Rattle.protocol.specs.Revocation.{revocation_names}
use Rattle.history.specs.Calls.{Call, authorization, token, revocation, check, handed_to, Result, Event}

-- ---- issues

-- a code is spent once it is exchanged
pub data Sort : Type 0 where
  code spent access refresh : Sort

-- what a call issued, and until when it is live
pub record Issue : Type 0 where
  pub sort : Sort
  -- as it stands in the answer that issued it
  pub text : List ℕ
  pub client : ℕ
  pub farm : ℕ
  pub scope : ℕ
  -- of a code: the redirect address that was given, if any, which must be repeated
  pub address : Value
  -- of a code: the challenge that was given, if any, which a verifier must answer
  pub challenge : Value
  pub expiry : ℕ
  -- the text of the code that it came from; a code, and a client's token for itself, came from itself
  pub origin : List ℕ

abbrev pub is_a : Sort → Issue → Bool
is_a code e = elim e.sort [ code ↦ true | spent ↦ false | access ↦ false | refresh ↦ false ]
is_a spent e = elim e.sort [ code ↦ false | spent ↦ true | access ↦ false | refresh ↦ false ]
is_a access e = elim e.sort [ code ↦ false | spent ↦ false | access ↦ true | refresh ↦ false ]
is_a refresh e = elim e.sort [ code ↦ false | spent ↦ false | access ↦ false | refresh ↦ true ]

-- "Something is live while T is below its expiry."
abbrev pub is_live_at : ℕ → Issue → Bool
is_live_at t e = ltb t e.expiry

-- it is the issue of this text
abbrev pub is_of : List ℕ → Issue → Bool
is_of presented e = same presented e.text

abbrev pub is_token : Issue → Bool
is_token e = is_a access e || is_a refresh e

-- an access or refresh token that came from the code of this text
abbrev pub is_token_from : List ℕ → Issue → Bool
is_token_from text e = is_token e && same text e.origin

-- "Expiry is T plus 600 (code), 3,600 (access), 2,592,000 (refresh)."; a spent code keeps its own
abbrev pub lifetime : Sort → ℕ
lifetime code = 600
lifetime spent = 0
lifetime access = 3600
lifetime refresh = 2592000

-- what stands where there is no issue: a code of zeros that is never live
unfoldable pub no_issue : Issue
no_issue = record {
  sort = code;
  text = hex_text (replicate 20 0);
  client = 0;
  farm = 0;
  scope = 0;
  address = missing;
  challenge = missing;
  expiry = 0;
  origin = hex_text (replicate 20 0);
}

-- the issue of this sort and text among those that stand
abbrev pub origin_of : Sort → List ℕ → List Issue → Issue
origin_of sort presented standing = first_or no_issue (λ e. is_a sort e && is_of presented e) standing

-- ---- what a form asks for

abbrev pub value_of : List ℕ → List ℕ → List ℕ
value_of form name = only_value (form_value form name)

abbrev pub is_exchange : List ℕ → Bool
is_exchange body = is_once (bytes "authorization_code") (form_value body (bytes "grant_type"))

abbrev pub is_refresh : List ℕ → Bool
is_refresh body = is_once (bytes "refresh_token") (form_value body (bytes "grant_type"))

abbrev pub is_credentials : List ℕ → Bool
is_credentials body = is_once (bytes "client_credentials") (form_value body (bytes "grant_type"))

unfoldable pub none_beyond : Option Scope → ℕ → Bool
none_beyond (Some asked) granted = every (λ k. not (has asked.bits k) || has granted k) (0 ∷ 1 ∷ 2 ∷ 3 ∷ 4 ∷ 5 ∷ 6 ∷ 7 ∷ [])
none_beyond None granted = false

-- "Scope is within the granted one when none is asked, or a scope value with no name beyond it."
unfoldable pub is_within_granted : Value → ℕ → Bool
is_within_granted missing granted = true
is_within_granted (once v) granted = none_beyond (read_scope v) granted
is_within_granted repeated granted = false

unfoldable pub names_or : Option Scope → ℕ → ℕ
names_or (Some asked) granted = asked.bits
names_or None granted = granted

-- "with the asked scope, or the granted one"
unfoldable pub asked_or : Value → ℕ → ℕ
asked_or missing granted = granted
asked_or (once v) granted = names_or (read_scope v) granted
asked_or repeated granted = granted

-- ---- who calls

-- the id that a call presents: in the header, behind `Basic ` and before the colon, coded as a value of a form; where none came, in
-- the body
unfoldable pub id_in : List ℕ → List ℕ → List ℕ
id_in [] body = value_of body (bytes "client_id")
id_in (b ∷ bs) body = let pair = base64_bytes standard (drop 6 (b ∷ bs)) in decode (take (index_of 58 pair) pair)

-- the number of the client that calls
abbrev pub caller : List Client → List ℕ → List ℕ → ℕ
caller clients header body = number_of (id_in header body) clients

-- ---- who is let in

-- neither `invalid_request` by the form nor `invalid_client`, for a list of known names and the one that must be there
abbrev pub is_let_in : List (List ℕ) → List ℕ → List Client → List ℕ → List ℕ → Bool
is_let_in names needed clients header body = not (is_invalid_form names needed header body) && not (is_invalid_client clients header body)

-- "Well-formed and admitted means that no refusal listed before `invalid_grant` applies.": of these, `invalid_request` and
-- `invalid_client` by the form and its client. The others the claim says in its own words: which grant is asked for; a code or
-- refresh token that is missing is nothing that was issued; a client that asks for itself must be confidential.
unfoldable pub is_admitted : List Client → List ℕ → List ℕ → Bool
is_admitted clients header body = is_let_in token_names (bytes "grant_type") clients header body

-- a revocation: "the checks come in the same order, without those of the grants, a missing token in place of a missing grant_type"
unfoldable pub is_admitted_to_revoke : List Client → List ℕ → List ℕ → Bool
is_admitted_to_revoke clients header body = is_let_in revocation_names (bytes "token") clients header body

-- ---- codes and tokens in answers

-- a code or token is 40 characters
abbrev pub forty_at : ℕ → Result → List ℕ
forty_at at r = part (take r.length r.output) at 40

-- behind the registered redirect, `?` or `&`, and `code=`
abbrev pub code_in : Client → Result → List ℕ
code_in client r = forty_at (length client.redirect + 1 + length (bytes "code=")) r

abbrev pub access_in : Result → List ℕ
access_in r = forty_at (length (bytes "{\"access_token\":\"")) r

-- behind the access token
abbrev pub refresh_in : Result → List ℕ
refresh_in r =
    forty_at (length (bytes "{\"access_token\":\"") + 40 + length (bytes "\",\"token_type\":\"Bearer\",\"expires_in\":3600,\"refresh_token\":\"")) r

-- ---- what one call that was granted adds and ends: "its client, farm and scope come from that call's arguments and the issue
-- of the code or refresh token presented"; of a client's token for itself, from the arguments and the registry

unfoldable pub code_issue : List Client → ℕ → List ℕ → ℕ → Result → Issue
code_issue clients t query farm r =
    let number = number_of (value_of query (bytes "client_id")) clients in
    let client = client_at clients number in
    record {
      sort = code;
      text = code_in client r;
      client = number;
      farm = farm;
      scope = asked_or (form_value query (bytes "scope")) client.scope;
      address = form_value query (bytes "redirect_uri");
      challenge = form_value query (bytes "code_challenge");
      expiry = t + lifetime code;
      origin = code_in client r;
    }

-- a token of a sort, on the code or refresh token `shown`, from the code of the text `origin`
abbrev pub token_issue : Sort → ℕ → List ℕ → Issue → List ℕ → ℕ → Issue
token_issue sort t text shown origin scope = record {
  sort = sort;
  text = text;
  client = shown.client;
  farm = shown.farm;
  scope = scope;
  address = missing;
  challenge = missing;
  expiry = t + lifetime sort;
  origin = origin;
}

-- "Each access and refresh token records the handle of the code it came from": an access token on a refresh token, of the code that this
-- one came from
module _ (t : ℕ) (standing : List Issue) (body : List ℕ) (r : Result) where
  unfoldable pub exchange_issues : List Issue
  exchange_issues =
      let o = origin_of code (value_of body (bytes "code")) standing in
      token_issue refresh t (refresh_in r) o o.text o.scope ∷ token_issue access t (access_in r) o o.text o.scope ∷ []

  unfoldable pub refresh_issues : List Issue
  refresh_issues =
      let o = origin_of refresh (value_of body (bytes "refresh_token")) standing in
      token_issue access t (access_in r) o o.origin (asked_or (form_value body (bytes "scope")) o.scope) ∷ []

-- a client's token for itself: "Such tokens carry farm 0"; "No scope means the client's set."; they "record their own" handle
unfoldable pub own_issue : List Client → ℕ → List ℕ → List ℕ → Result → Issue
own_issue clients t header body r =
    let number = caller clients header body in
    record {
      sort = access;
      text = access_in r;
      client = number;
      farm = 0;
      scope = asked_or (form_value body (bytes "scope")) (client_at clients number).scope;
      address = missing;
      challenge = missing;
      expiry = t + lifetime access;
      origin = access_in r;
    }

-- "A call that answered with a code or token issued it"; "Demand 3 counts these grants among the issues"
unfoldable pub issued_by : List Client → ℕ → List Issue → Call → Result → List Issue
issued_by clients t standing (authorization query decision farm handed) r = code_issue clients t query farm r ∷ []
issued_by clients t standing (token header body handed) r =
    cond (is_exchange body) (exchange_issues t standing body r)
    (cond (is_refresh body) (refresh_issues t standing body r) (cond (is_credentials body) (own_issue clients t header body r ∷ []) []))
issued_by clients t standing (revocation header body clock output) r = []
issued_by clients t standing (check presented clock) r = []

-- "A code is exchanged once an exchange of it has answered 200."
unfoldable pub is_spent_by : Call → Issue → Bool
is_spent_by (authorization query decision farm handed) e = false
is_spent_by (token header body handed) e = is_exchange body && (is_a code e && is_of (value_of body (bytes "code")) e)
is_spent_by (revocation header body clock output) e = false
is_spent_by (check presented clock) e = false

-- "Keep an exchanged code .. until its old expiry."
abbrev pub as_spent : Issue → Issue
as_spent e = record {
  sort = spent;
  text = e.text;
  client = e.client;
  farm = e.farm;
  scope = e.scope;
  address = e.address;
  challenge = e.challenge;
  expiry = e.expiry;
  origin = e.origin;
}

-- what becomes of an issue by a call that was granted
abbrev pub after_grant : Call → Issue → Issue
after_grant c e = cond (is_spent_by c e) (as_spent e) e

-- ---- a code that is shown twice

-- "When the same client, authenticated, presents a live spent code": no unspent one has its text, where no twenty random bytes
-- come twice
unfoldable pub is_second_showing : List Client → ℕ → List Issue → Call → Bool
is_second_showing clients t standing (authorization query decision farm handed) = false
is_second_showing clients t standing (token header body handed) =
    let shown = value_of body (bytes "code") in
    is_admitted clients header body && is_exchange body
    && any (λ e. is_live_at t e && (is_a spent e && is_of shown e && eqb e.client (caller clients header body))) standing
is_second_showing clients t standing (revocation header body clock output) = false
is_second_showing clients t standing (check presented clock) = false

-- the code that a call shows
unfoldable pub code_shown : Call → List ℕ
code_shown (authorization query decision farm handed) = []
code_shown (token header body handed) = value_of body (bytes "code")
code_shown (revocation header body clock output) = []
code_shown (check presented clock) = []

-- it withdraws "every token with that origin", and nothing else
unfoldable pub is_withdrawn_by : List Client → ℕ → List Issue → Call → Issue → Bool
is_withdrawn_by clients t standing c e = is_second_showing clients t standing c && is_token_from (code_shown c) e

-- ---- a token that is revoked

-- the token that a call shows, live, and of the client that calls
abbrev pub is_revocable : List Client → ℕ → List ℕ → List ℕ → Issue → Bool
is_revocable clients t header body e =
    is_live_at t e && (is_token e && is_of (value_of body (bytes "token")) e && eqb e.client (caller clients header body))

-- what goes with it: "an access token is cleared, or a refresh token together with all access tokens of its origin"
abbrev pub goes_with : Issue → Issue → Bool
goes_with x e = is_token e && is_of x.text e || is_a refresh x && (is_a access e && same x.origin e.origin)

-- what a revocation that answered with 200 ended
unfoldable pub is_revoked_by : List Client → ℕ → List Issue → Call → Issue → Bool
is_revoked_by clients t standing (authorization query decision farm handed) e = false
is_revoked_by clients t standing (token header body handed) e = false
is_revoked_by clients t standing (revocation header body clock output) e =
    any (λ x. is_revocable clients t header body x && goes_with x e) standing
is_revoked_by clients t standing (check presented clock) e = false

-- ---- what all calls contain

-- "(forty are two twenties)"
abbrev pub first_twenty : List ℕ → List ℕ
first_twenty random = take 20 random

abbrev pub last_twenty : List ℕ → List ℕ
last_twenty random = drop 20 random

unfoldable pub twenties : Call → List (List ℕ)
twenties (authorization query decision farm handed) = handed.random ∷ []
twenties (token header body handed) = first_twenty handed.random ∷ last_twenty handed.random ∷ []
twenties (revocation header body clock output) = []
twenties (check presented clock) = []

-- of the calls seen: the highest clock, the issues that stand, and the random bytes. An issue stands unless it was withdrawn or revoked,
-- and a code that was exchanged stands as spent
pub record Contents : Type 0 where
  pub highest : ℕ
  pub standing : List Issue
  pub randoms : List (List ℕ)

-- before any call
abbrev pub nothing_yet : Contents
nothing_yet = record { highest = 0; standing = []; randoms = [] }

-- what stands after a call at the time t: "Demand 3 adds to "live" that no such second showing came earlier"; "Demand 3's "live" adds
-- that no such call came earlier", as revokes the token
unfoldable pub standing_after : List Client → ℕ → List Issue → Call → Result → List Issue
standing_after clients t standing c r =
    cond r.granted
    (issued_by clients t standing c r ++ map (after_grant c) (keep (λ e. not (is_revoked_by clients t standing c e)) standing))
    (keep (λ e. not (is_withdrawn_by clients t standing c e)) standing)

-- one event more: "Calls refused with 1 to 4 are neither judged nor seen, and their random bytes don't count."
unfoldable pub with_event : List Client → Event → Contents → Contents
with_event clients e c =
    let t = max (handed_to e.call).clock c.highest in
    let standing = standing_after clients t c.standing e.call e.result in
    cond e.result.unfit c (record { highest = t; standing = standing; randoms = twenties e.call ++ c.randoms })

unfoldable pub with_events : List Client → Contents → List Event → Contents
with_events clients c [] = c
with_events clients c (e ∷ es) = with_events clients (with_event clients e c) es

-- "the same twenty random bytes never come twice"
abbrev pub NeverTwice : List (List ℕ) → Type 0
NeverTwice rs = (h : List ℕ) → count (same h) rs ≤ 1
