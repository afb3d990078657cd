-- Demand 3: one claim about every list of calls, and any server; at the end what is claimed beyond it.
use Rattle.std.specs.Prelude.{ℕ, ◌+◌, ◌-◌, ◌*◌, ◌<◌, max, ◌≡◌, Bool, true, false, cond, not, ◌&&◌, ◌||◌, leb, eqb, length, replicate}
use mathlib.Core.List.{List, [], ◌++◌, Memᴰ}
use Rattle.std.proofs.lemmas.List.Edits.{sets}
use Rattle.octets.specs.Text.{bytes}
use Rattle.octets.specs.Lists.{part, every, same}
use Rattle.octets.specs.Search.{count, any}
use Rattle.encoding.specs.Base64.{url, base64_text}
use Rattle.sha256.specs.Digest.{digest}
use Rattle.form.specs.Content.{Value, missing, once, repeated, form_value, is_once}
use Rattle.client_registry.specs.Registry.{Client, clients_of}
use Rattle.client_registry.specs.Lookup.{number_of, client_at}
use Rattle.protocol.specs.Authorization.{location, code_parameter}
use Rattle.protocol.specs.Token.{token_reply, refresh_member}
use Rattle.protocol.specs.Outcomes.{Handed, without_random}
use Rattle.history.specs.Calls.{Call, authorization, token, revocation, check, handed_to, Result, Server, store_after_all, events, fresh_store}
use Rattle.history.specs.Slots.{slots_in_all, holds_access, holds_token, has_text, came_from, holds_token_from}
use Rattle.history.specs.Contents.{code, access, refresh, Issue, is_a, is_live_at, is_token, is_of, origin_of, value_of, is_exchange, is_refresh, is_credentials, is_within_granted, asked_or, caller, is_admitted, is_admitted_to_revoke, is_second_showing, code_shown, is_revocable, first_twenty, last_twenty, Contents, nothing_yet, with_events, twenties, NeverTwice}

-- ---- what the calls must contain

-- "the codes, access and refresh tokens that the calls issued .. and live at T .. plus the slots needed (two to exchange, one to
-- refresh) are at most" the slots that there are; "one slot" for a client's token for itself. "its room counts spent codes until
-- they run out", and an exchange's own code is no longer "left out of demand 3's room"
abbrev pub has_room_for : ℕ → ℕ → List Issue → Bool
has_room_for needed t standing = leb (count (is_live_at t) standing + needed) slots_in_all

-- "any bound redirect address is repeated"
unfoldable pub is_repeated_by : Value → Value → Bool
is_repeated_by missing given = true
is_repeated_by (once address) given = is_once address given
is_repeated_by repeated given = false

-- RFC 7636, section 4.1: "unreserved = ALPHA / DIGIT / "-" / "." / "_" / "~""
abbrev pub is_unreserved : ℕ → Bool
is_unreserved c = leb 65 c && leb c 90 || leb 97 c && leb c 122 || leb 48 c && leb c 57 || any (eqb c) (bytes "-._~")

-- "43 to 128 unreserved characters", whose SHA-256 is the challenge, written in base64url
unfoldable pub is_verifier_for : List ℕ → List ℕ → Bool
is_verifier_for challenge v = leb 43 (length v) && leb (length v) 128 && every is_unreserved v && same challenge (base64_text url (digest v))

unfoldable pub verifies : List ℕ → Value → Bool
verifies challenge missing = false
verifies challenge (once v) = is_verifier_for challenge v
verifies challenge repeated = false

-- "An exchange whose verifier is missing, malformed .. or of another digest"; "a verifier for a code without challenge .. is ignored"
unfoldable pub is_answered_by : Value → Value → Bool
is_answered_by missing verifier = true
is_answered_by (once challenge) verifier = verifies challenge verifier
is_answered_by repeated verifier = false

module _ (clients : List Client) (t : ℕ) (standing : List Issue) (header body : List ℕ) where
  -- "an issue of that code to that client, live by the highest clock seen, not yet exchanged, any bound redirect address is
  -- repeated"; "Demand 3's list of conditions gains this one", that a challenge is answered
  abbrev pub is_exchangeable : Issue → Bool
  is_exchangeable e =
      is_live_at t e
      && (is_a code e && is_of (value_of body (bytes "code")) e
      && (eqb e.client (caller clients header body) && is_repeated_by e.address (form_value body (bytes "redirect_uri"))
      && is_answered_by e.challenge (form_value body (bytes "code_verifier"))))

  -- "and there is room"
  unfoldable pub may_exchange : Bool
  may_exchange = any is_exchangeable standing && has_room_for 2 t standing

  -- "a live issue of that refresh token to that client, the scope asked is within the one granted"
  abbrev pub is_refreshable : Issue → Bool
  is_refreshable e =
      is_live_at t e
      && (is_a refresh e && is_of (value_of body (bytes "refresh_token")) e
      && (eqb e.client (caller clients header body) && is_within_granted (form_value body (bytes "scope")) e.scope))

  -- "and there is room"
  unfoldable pub may_refresh : Bool
  may_refresh = any is_refreshable standing && has_room_for 1 t standing

  -- a client for itself: "confidential clients only", "Scope is as at the authorization counter", "one slot"
  unfoldable pub may_have_own : Bool
  may_have_own =
      let client = client_at clients (caller clients header body) in
      client.confidential && is_within_granted (form_value body (bytes "scope")) client.scope && has_room_for 1 t standing

  -- "a live token of another client is `invalid_grant`": a live one that is shown is the caller's
  unfoldable pub may_revoke : Bool
  may_revoke =
      not (any (λ e. is_live_at t e && (is_token e && is_of (value_of body (bytes "token")) e && not (eqb e.client (caller clients header body)))) standing)

  -- by a slot's bytes: what is cleared with a token that is revoked, itself, or "a refresh token together with all access tokens of its
  -- origin"
  abbrev pub is_cleared : List ℕ → Bool
  is_cleared slot =
      any (λ e.
      is_revocable clients t header body e
      && (holds_token slot && has_text e.text slot || is_a refresh e && (holds_access slot && came_from e.origin slot))) standing

-- "a live issue of it as an access token"
unfoldable pub may_pass : ℕ → List Issue → List ℕ → Bool
may_pass t standing presented = any (λ e. is_live_at t e && (is_a access e && is_of presented e)) standing

-- ---- what is written

-- the answer is this text: it stands at the start of the output, and the length says where it ends
pub record Answers (handed : Handed) (r : Result) (text : List ℕ) : Type 0 where
  pub ends : r.length ≡ length text
  pub written : r.output ≡ sets handed.output 0 text

-- ---- the claim, for a server, a registry and the calls before the one that is judged

module _ (server : Server) (registry : List ℕ) (cs : List Call) where
  -- the clients, the store that the calls left, and what they contain
  abbrev pub clients : List Client
  clients = clients_of registry

  abbrev pub store : List ℕ
  store = store_after_all server registry fresh_store cs

  abbrev pub contained : Contents
  contained = with_events clients nothing_yet (events server registry fresh_store cs)

  abbrev pub standing : List Issue
  standing = contained.standing

  -- "The highest clock seen at a call, its T"
  abbrev pub time_at : ℕ → ℕ
  time_at clock = max clock contained.highest

  -- what comes of the next call, which is judged
  abbrev pub next : Call → Result
  next c = server registry store c

  -- the call is judged: it is not refused with 1 to 4, and no twenty random bytes come twice in it and the calls seen
  pub record Judged (c : Call) : Type 0 where
    pub fit : (next c).unfit ≡ false
    pub once : NeverTwice (twenties c ++ contained.randoms)

  -- a call at the token endpoint, well-formed and by an admitted client, is judged
  pub record Asks (header body : List ℕ) (handed : Handed) : Type 0 where
    pub judged : Judged (token header body handed)
    pub admitted : is_admitted clients header body ≡ true

  pub record Demand3 : Type 0 where
    -- "a well-formed exchange by an admitted client yields tokens exactly when .."
    pub exchanges : (header body : List ℕ) (handed : Handed) → Asks header body handed → is_exchange body ≡ true
        → (next (token header body handed)).granted ≡ may_exchange clients (time_at handed.clock) standing header body
    -- "Such a refresh yields an access token exactly when .."
    pub refreshes : (header body : List ℕ) (handed : Handed) → Asks header body handed → is_refresh body ≡ true
        → (next (token header body handed)).granted ≡ may_refresh clients (time_at handed.clock) standing header body
    -- "A token passes the gate exactly when they contain a live issue of it as an access token"
    pub passes : (presented : List ℕ) (clock : ℕ) → Judged (check presented clock)
        → (next (check presented clock)).passed ≡ may_pass (time_at clock) standing presented
    -- "and the gate then names that issue's client, farm and scope"; the seconds left are its expiry less T
    pub names : (presented : List ℕ) (clock : ℕ) → Judged (check presented clock)
        → (e : Issue) → Memᴰ e standing → is_live_at (time_at clock) e ≡ true → (is_a access e && is_of presented e) ≡ true
        → (next (check presented clock)).named
        ≡ record { client = e.client; farm = e.farm; scope = e.scope; left = e.expiry - time_at clock }
    -- "To yield is to answer 200 with the tokens in the reply.": the random bytes, with the scope of the code
    pub exchange_replies : (header body : List ℕ) (handed : Handed) → Asks header body handed → is_exchange body ≡ true
        → (next (token header body handed)).granted ≡ true
        → let scope = (origin_of code (value_of body (bytes "code")) standing).scope in
        let second = refresh_member (last_twenty handed.random) in
        Answers handed (next (token header body handed)) (token_reply (first_twenty handed.random) second scope)
    -- with the scope asked, or that of the refresh token
    pub refresh_replies : (header body : List ℕ) (handed : Handed) → Asks header body handed → is_refresh body ≡ true
        → (next (token header body handed)).granted ≡ true
        → let granted = (origin_of refresh (value_of body (bytes "refresh_token")) standing).scope in
        let scope = asked_or (form_value body (bytes "scope")) granted in
        Answers handed (next (token header body handed)) (token_reply (first_twenty handed.random) [] scope)
    -- a client for itself, with the scope asked, or its set; "no refresh token"
    pub credentials_replies : (header body : List ℕ) (handed : Handed) → Asks header body handed → is_credentials body ≡ true
        → (next (token header body handed)).granted ≡ true
        → let own = asked_or (form_value body (bytes "scope")) (client_at clients (caller clients header body)).scope in
        Answers handed (next (token header body handed)) (token_reply (first_twenty handed.random) [] own)
    -- a code that is issued stands in the location, for the client that the query names: it is the random bytes
    pub locates : (query : List ℕ) (decision farm : ℕ) (handed : Handed) → Judged (authorization query decision farm handed)
        → (next (authorization query decision farm handed)).granted ≡ true
        → let redirect = (client_at clients (number_of (value_of query (bytes "client_id")) clients)).redirect in
        let parameter = code_parameter (first_twenty handed.random) in
        Answers handed (next (authorization query decision farm handed)) (location redirect parameter (form_value query (bytes "state")))
    -- "A refused try spends nothing": "after a refused try every slot keeps its bytes", each of 67 bytes, behind the mark. "its last
    -- sentence excepts that one refusal, which clears those tokens and nothing else"
    pub spends_nothing : (c : Call) → Judged c → (next c).granted ≡ false → (i : ℕ) → i < slots_in_all
        → let slot = part store (8 + i * 67) 67 in
        let clears = is_second_showing clients (time_at (handed_to c).clock) standing c && holds_token_from (code_shown c) slot in
        part (next c).store (8 + i * 67) 67 ≡ cond clears (replicate 67 0) slot

  -- Beyond the demand, which holds of a server that issues nothing: a well-formed request of an admitted client for itself yields
  -- exactly when the client is confidential, the scope asked is within its set, and there is room for one.
  pub record CredentialsYield : Type 0 where
    pub yields : (header body : List ℕ) (handed : Handed) → Asks header body handed → is_credentials body ≡ true
        → (next (token header body handed)).granted ≡ may_have_own clients (time_at handed.clock) standing header body

  -- And when a revocation is done, what it answers and what it clears.
  pub record Revokes : Type 0 where
    -- it is answered with 200 exactly when the client is admitted and no live token of another client is shown: "An unknown or run-out
    -- token .. is status 200"
    pub done : (header body : List ℕ) (clock : ℕ) (output : List ℕ) → Judged (revocation header body clock output)
        → (next (revocation header body clock output)).granted
        ≡ (is_admitted_to_revoke clients header body && may_revoke clients (time_at clock) standing header body)
    -- "status 200, empty"
    pub replies : (header body : List ℕ) (clock : ℕ) (output : List ℕ) → Judged (revocation header body clock output)
        → (next (revocation header body clock output)).granted ≡ true
        → Answers (without_random clock output) (next (revocation header body clock output)) []
    -- "an access token is cleared, or a refresh token together with all access tokens of its origin": every other slot keeps its bytes. That
    -- one which is refused clears nothing is said of every call (`spends_nothing`)
    pub clears : (header body : List ℕ) (clock : ℕ) (output : List ℕ) → Judged (revocation header body clock output)
        → (next (revocation header body clock output)).granted ≡ true
        → (i : ℕ) → i < slots_in_all
        → let slot = part store (8 + i * 67) 67 in
        part (next (revocation header body clock output)).store (8 + i * 67) 67
        ≡ cond (is_cleared clients (time_at clock) standing header body slot) (replicate 67 0) slot
