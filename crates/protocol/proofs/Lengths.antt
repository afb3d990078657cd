-- Laws of the lengths of what is written: no location is longer than 853 bytes and no reply longer than 217, which texts of these
-- lengths show to be the least bounds. So no length that is answered is more than the output's: where a call is served it has 1,024
-- bytes, and where it is refused with 1 to 4 the length is 0.
--
-- In order: the texts that both are made of; the location; the reply; an outcome; texts of the full lengths.
-- Assumes nothing.
use Prim.Native.Nat.{ℕ, ◌+◌, ◌*◌, ◌≤◌}
use mathlib.Core.Path.{◌≡◌, refl}
use mathlib.Core.Bool.{Bool, true, false, cond}
use mathlib.Core.List.{List, [], ◌++◌}
use Rattle.std.specs.Prelude.{Ok, Err}
use native.Mathlib.Omega.{arith}
use borrow.Author.Tests.{leb-true, ltb-false, not-false}
use lib.Dec.{leb, eqb, lit≤, lit<}
use lib.ListN.{length, take, drop, replicate, length-append, length-take}
use Rattle.octets.specs.Text.{bytes}
use Rattle.octets.specs.Lists.{every, in_class}
use Rattle.octets.specs.Search.{any}
use Rattle.octets.proofs.Booleans.{and_left, cond_of, or-none}
use Rattle.encoding.specs.Hex.{hex_text, hex_digit}
use Rattle.encoding.proofs.Hex.{hex-length}
use Rattle.form_coding.specs.Coding.{encode, encode_byte}
use Rattle.form_coding.proofs.RoundTrip.{encode-length}
use Rattle.form.specs.Content.{Value, missing, once, repeated, form_value}
use Rattle.scope.specs.Set.{names}
use Rattle.scope.specs.Value.{chosen, spaced, scope_text}
use Rattle.scope.proofs.Value.{text-length}
use Rattle.client_registry.specs.Layout.{redirect_room}
use Rattle.client_registry.specs.Registry.{Client, fit_registry, clients_of}
use Rattle.client_registry.specs.Lookup.{client_at}
use Rattle.client_registry.proofs.Clients.{redirect-most}
use Rattle.token_store.specs.Layout.{handle_size}
use Rattle.token_store.specs.declared.Slot.{Slot}
use Rattle.protocol.specs.declared.AuthorizationAnswer.{AuthorizationAnswer}
use Rattle.protocol.specs.declared.TokenAnswer.{TokenAnswer}
use Rattle.protocol.specs.declared.Input.TheVariants.{Buffers, Registry, Store, Clock}
use Rattle.protocol.specs.declared.ErrorWord.{ErrorWord}
use Rattle.protocol.specs.declared.ErrorWord.TheVariants.{InvalidRequest, InvalidClient, InvalidGrant, InvalidScope, UnsupportedGrantType, UnsupportedResponseType, AccessDenied, TemporarilyUnavailable, ServerError, UnauthorizedClient}
use Rattle.protocol.specs.declared.Refusal.{Refusal}
use Rattle.protocol.specs.declared.Refusal.TheVariants.{Unfit, ErrorPage, Redirect, Token, Failed}
use Rattle.protocol.specs.Limits.{most_state, least_output, code_random, token_random, longest_location, longest_reply}
use Rattle.protocol.specs.Answers.{word_text, Decision}
use Rattle.protocol.specs.Authorization.{query_client, read_authorization, is_sound_state, separator, state_text, location, code_parameter, error_parameter, location_text}
use Rattle.protocol.specs.Token.{read_token, error_reply, refusal_reply, token_reply, refresh_member}
use Rattle.protocol.specs.Revocation.{read_revocation, revocation_reply}
use Rattle.protocol.specs.Granting.{Plan, first_handle, second_handle, plan_of, decision_on}
use Rattle.protocol.specs.Outcomes.{Handed, Endpoint, Outcome, unfit_reasons, admit, outcome_by, outcome, unfit_output, unfit_buffers, serve_authorization, authorization_endpoint, authorization_outcome, reply_text, serve_token, token_endpoint, token_outcome, without_random, serve_revocation, revocation_endpoint, revocation_outcome}
use Rattle.protocol.proofs.Reasons.{unrefused, decided}

-- ---- error words and handles

pub word-length : (w : ErrorWord) → length (word_text w) ≤ 25
unfolding word_text
word-length InvalidRequest = lit≤ tt
word-length InvalidClient = lit≤ tt
word-length InvalidGrant = lit≤ tt
word-length InvalidScope = lit≤ tt
word-length UnsupportedGrantType = lit≤ tt
word-length UnsupportedResponseType = lit≤ tt
word-length AccessDenied = lit≤ tt
word-length TemporarilyUnavailable = lit≤ tt
word-length ServerError = lit≤ tt
word-length UnauthorizedClient = lit≤ tt

-- a handle in hex, of any random bytes
hex-most : (l : List ℕ) → length (hex_text (take handle_size l)) ≤ 2 * handle_size
hex-most l = omega (arith, hex-length (take handle_size l), length-take handle_size l)

-- ---- the location

pub sound-length : (x : List ℕ) → is_sound_state x ≡ true → length x ≤ most_state
unfolding is_sound_state
sound-length x sound = leb-true (length x) most_state (and_left (leb (length x) most_state) (every (in_class 32 126 0) x) sound)

state-length : (v : Value) → length (state_text v) ≤ 7 + 3 * most_state
unfolding state_text
state-length missing = omega arith
state-length repeated = omega arith
state-length (once x) =
    cond_of (λ l. length l ≤ 7 + 3 * most_state) (is_sound_state x) (bytes "&state=" ++ encode x) []
    (λ sound. omega (arith, length-append (bytes "&state=") (encode x), encode-length x, sound-length x sound))
    (λ e. omega arith)

pub separator-length : (redirect : List ℕ) → length (separator redirect) ≡ 1
unfolding separator
separator-length redirect = cond_of (λ l. length l ≡ 1) (any (λ b. eqb b 63) redirect) (bytes "&") (bytes "?") (λ e. refl) (λ e. refl)

module _ (redirect : List ℕ) (short : length redirect ≤ redirect_room) (state : Value) where
  with-parameter : (parameter : List ℕ) → length parameter ≤ 5 + 2 * handle_size → length (location redirect parameter state) ≤ longest_location
  unfolding location
  with-parameter parameter h = simp length-append (omega (arith, short, h, separator-length redirect, state-length state))

  -- of any random bytes and decision
  pub location-length : (random : List ℕ) (d : Decision) → length (location_text redirect state (first_handle random) d) ≤ longest_location
  unfolding location_text code_parameter error_parameter
  location-length random (Ok tt) =
      with-parameter _ (omega (arith, length-append (bytes "code=") (hex_text (first_handle random)), hex-most random))
  location-length random (Err (Unfit i)) = omega arith
  location-length random (Err (ErrorPage p)) = omega arith
  location-length random (Err (Redirect w)) =
      with-parameter _ (omega (arith, length-append (bytes "error=") (word_text w), word-length w))
  location-length random (Err (Token w)) = omega arith
  location-length random (Err (Failed f)) = omega arith

-- ---- the reply

refusal-length : (r : Refusal) → length (refusal_reply r) ≤ longest_reply
unfolding refusal_reply error_reply
refusal-length (Unfit i) = omega arith
refusal-length (ErrorPage p) = omega arith
refusal-length (Redirect w) = omega arith
refusal-length (Token w) = simp length-append (omega (arith, word-length w))
refusal-length (Failed f) = omega arith

member-length : (random : List ℕ) (b : Bool) → length (cond b (refresh_member (second_handle random)) []) ≤ 19 + 2 * handle_size
unfolding refresh_member
member-length random true = simp length-append (omega (arith, hex-most (drop handle_size random)))
member-length random false = omega arith

-- of any random bytes, plan and decision
pub reply-length : (random : List ℕ) (plan : Plan) (d : Decision) → length (reply_text random plan d) ≤ longest_reply
unfolding reply_text token_reply
reply-length random plan (Ok tt) =
    simp length-append (omega (arith, hex-most random, member-length random plan.brings_refresh, text-length plan.scope))
reply-length random plan (Err r) = refusal-length r

revocation-length : (d : Decision) → length (revocation_reply d) ≤ longest_reply
unfolding revocation_reply
revocation-length (Ok tt) = omega arith
revocation-length (Err r) = refusal-length r

-- ---- an outcome: what is answered is within the output

module _ (handed : Handed) where
  -- the output of a call whose output is fit, and of one whose buffers are
  room : unfit_output handed.output ≡ false → least_output ≤ length handed.output
  room fit = ltb-false (length handed.output) least_output fit

  room-beside : (n : ℕ) → unfit_buffers n handed.random handed.output ≡ false → least_output ≤ length handed.output
  room-beside n fit = room (or-none (unfit_output handed.output) _ fit).0

  -- where a call is served, by its clients at a time, on any slots
  module _ (clients : List Client) (t : ℕ) (slots : List Slot) where
    pub location-fits : (query : List ℕ) (decision farm : ℕ) → ((n : ℕ) → length (client_at clients n).redirect ≤ redirect_room)
        → unfit_buffers code_random handed.random handed.output ≡ false
        → (serve_authorization query decision farm clients t slots handed.random).answer.length ≤ length handed.output
    unfolding serve_authorization
    location-fits query decision farm short fit =
        let plan = plan_of t slots handed.random (read_authorization clients query decision farm) in
        let most =
        location-length (client_at clients (query_client clients query)).redirect (short (query_client clients query))
        (form_value query (bytes "state")) handed.random (decision_on plan) in
        omega (arith, most, room-beside code_random fit)

    pub reply-fits : (header body : List ℕ) → unfit_buffers token_random handed.random handed.output ≡ false
        → (serve_token header body clients t slots handed.random).answer.length ≤ length handed.output
    unfolding serve_token
    reply-fits header body fit =
        let plan = plan_of t slots handed.random (read_token clients header body) in
        omega (arith, reply-length handed.random plan (decision_on plan), room-beside token_random fit)

    pub revocation-fits : (header body : List ℕ) → unfit_output handed.output ≡ false
        → (serve_revocation header body clients t slots handed.random).answer.length ≤ length handed.output
    unfolding serve_revocation
    revocation-fits header body fit =
        let plan = plan_of t slots handed.random (read_revocation clients header body) in
        omega (arith, revocation-length (decision_on plan), room fit)

  -- of a call on any registry and store: it is refused with 1 to 4 or served
  module _ (registry store : List ℕ) where
    within : {Answer : Type 0} (endpoint : Endpoint Answer) (long : Answer → ℕ)
        → ((refusal : Refusal) → long (endpoint.refuse refusal) ≡ 0)
        → (fit_registry registry ≡ true → endpoint.unfit handed ≡ false → (t : ℕ) (slots : List Slot)
        → long (endpoint.serve (clients_of registry) t slots handed.random).answer ≤ length handed.output)
        → long (outcome endpoint registry store handed).answer ≤ length handed.output
    unfolding outcome outcome_by admit
    within endpoint long refused served =
        let reasons = unfit_reasons (endpoint.unfit handed) registry store handed.clock in
        let none : (refusal : Refusal) → long (endpoint.refuse refusal) ≤ length handed.output = λ refusal. omega (arith, refused refusal) in
        decided (λ d. long (outcome_by endpoint registry store handed d).answer ≤ length handed.output) reasons
        (none (Unfit Buffers), (none (Unfit Registry), (none (Unfit Store), (none (Unfit Clock), tt))))
        (λ past.
        served (not-false (fit_registry registry) (unrefused reasons past 1 (lit< tt))) (unrefused reasons past 0 (lit< tt)) _ _)

module _ (registry store : List ℕ) (handed : Handed) where
  pub location-within : (query : List ℕ) (decision farm : ℕ) {o : Outcome AuthorizationAnswer}
      → o ≡ authorization_outcome query decision farm registry store handed → o.answer.length ≤ length handed.output
  location-within query decision farm e =
      rw e
      (within handed registry store (authorization_endpoint query decision farm) (λ a. a.length) (λ refusal. refl)
      (λ sound fit t slots. location-fits handed (clients_of registry) t slots query decision farm (redirect-most registry sound) fit))

  pub reply-within : (header body : List ℕ) {o : Outcome TokenAnswer}
      → o ≡ token_outcome header body registry store handed → o.answer.length ≤ length handed.output
  reply-within header body e =
      rw e
      (within handed registry store (token_endpoint header body) (λ a. a.length) (λ refusal. refl)
      (λ sound fit t slots. reply-fits handed (clients_of registry) t slots header body fit))

pub revocation-within : (registry store header body : List ℕ) (clock : ℕ) (output : List ℕ) {o : Outcome TokenAnswer}
    → o ≡ revocation_outcome header body registry store clock output → o.answer.length ≤ length output
revocation-within registry store header body clock output e =
    let handed = without_random clock output in
    rw e
    (within handed registry store (revocation_endpoint header body) (λ a. a.length) (λ refusal. refl)
    (λ sound fit t slots. revocation-fits handed (clients_of registry) t slots header body fit))

-- ---- texts of the full lengths

-- an address of 200 bytes, and a state of 200 that are all written as escapes
pub longest-location : length (location_text (replicate 200 97) (once (replicate 200 37)) (replicate 20 0) (Ok tt)) ≡ longest_location
unfolding location_text location separator state_text is_sound_state code_parameter any every encode encode_byte hex_text hex_digit
longest-location = refl

pub longest-reply : length (token_reply (replicate 20 0) (refresh_member (replicate 20 0)) 255) ≡ longest_reply
unfolding token_reply refresh_member scope_text chosen spaced names hex_text hex_digit
longest-reply = refl
