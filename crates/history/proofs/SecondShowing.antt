-- A code that is shown again, in the claim's words and by the slots: what such a call withdraws of the issues that stand
-- (`withdrawn-shown`) and of the slots (`denied-is`), that both speak of the same calls (`again-second`), and what is answered
-- (`again-refused`).
--
-- In order: which calls show a code at all (`shown_by`); by the issues; by the slots.
-- Assumes nothing.
use mathlib.Core.Path.{◌≡◌, refl, sym, ap, ap₂, ◌∙◌, fun_ext, subst}
use mathlib.Core.Bool.{Bool, true, false, cond, not, ◌&&◌, false≢true, and-false}
use mathlib.Core.List.{List, [], ◌∷◌, ◌++◌, map}
use Prim.Native.Nat.{ℕ}
use Rattle.std.specs.Prelude.{Ok, Err, Option, is_some, Some, None}
use borrow.Author.Tests.{not-true}
use lib.Dec.{eqb}
use Rattle.octets.specs.Text.{bytes}
use Rattle.octets.specs.Search.{any, keep}
use Rattle.octets.proofs.Booleans.{by-test, and_left, and_right}
use Rattle.octets.proofs.Counting.{keep_all, keep-map, any-map, first_or-none}
use Rattle.encoding.specs.Hex.{read_handle, is_handle_text}
use Rattle.form.specs.Content.{Value, missing, once, repeated, form_value, is_missing, only_value}
use Rattle.client_registry.specs.Registry.{Client}
use Rattle.client_registry.specs.Lookup.{client_at}
use Rattle.token_store.specs.Store.{free_slot, is_live, is_sought, sought_key}
use Rattle.token_store.specs.declared.Slot.{Slot}
use Rattle.token_store.specs.declared.Sought.TheVariants.{Code as sought_code, Spent as sought_spent}
use Rattle.token_store.proofs.Slots.{free-dead}
use Rattle.protocol.specs.Answers.{Decision}
use Rattle.protocol.specs.declared.ExchangeRequest.{ExchangeRequest}
use Rattle.protocol.specs.declared.Request.{Request}
use Rattle.protocol.specs.declared.Request.TheVariants.{Refused, Code, Exchange, Refresh, Credentials, Revocation}
use Rattle.protocol.specs.declared.Reading.{Reading}
use Rattle.protocol.specs.declared.ErrorWord.TheVariants.{InvalidRequest, InvalidClient, InvalidGrant}
use Rattle.protocol.specs.declared.Refusal.TheVariants.{Token}
use Rattle.protocol.specs.Refusals.{when, first_of}
use Rattle.protocol.specs.Requests.{unless_refused}
use Rattle.protocol.specs.Authorization.{query_client, code_reading, page_reasons, redirect_reasons, read_authorization}
use Rattle.protocol.specs.ClientForms.{is_invalid_form, is_invalid_client, call_client, form_reasons}
use Rattle.protocol.specs.Token.{token_names, read_token}
use Rattle.protocol.specs.Revocation.{revocation_names, read_revocation}
use Rattle.protocol.specs.Granting.{shown_slot, is_own, is_shown_again, decision_on, exchange_plan, plan_for, plan_of, without_issued_on, is_issued_on}
use Rattle.protocol.specs.Outcomes.{Handed}
use Rattle.protocol.proofs.Computing.{plan_definitions}
use Rattle.history.specs.Calls.{Call, authorization, token, revocation, check}
use Rattle.history.specs.Contents.{spent, Issue, is_a, is_live_at, is_of, is_token_from, value_of, is_exchange, caller, is_admitted, is_second_showing, code_shown, is_withdrawn_by, NeverTwice}
use Rattle.history.proofs.HeldIssues.{Held, as_slot, as_issue, issue-live, issue-key, issue-from}
use Rattle.history.proofs.Invariant.{none-shown, Invariant, shown-again}
use Rattle.history.proofs.OneRequest.{is_shown_held, held_after_refusal}
use Rattle.history.proofs.AnyCall.{asked}
use Rattle.history.proofs.Asking.{caller-is, exchange_asked, exchange_reading, revocation_reading, unless_missing, exchange-read, ReadAs, refused_as, exchange_as, refresh_as, credentials_as, token-read}

-- ---- which calls show a code

-- a request to exchange a code
abbrev is_exchange_request : Request → Bool
is_exchange_request (Refused r) = false
is_exchange_request (Code r) = false
is_exchange_request (Exchange r) = true
is_exchange_request (Refresh r) = false
is_exchange_request (Credentials r) = false
is_exchange_request (Revocation r) = false

module _ (clients : List Client) where
  -- a well-formed exchange of an admitted client, with the text of a handle
  unfoldable is_showing : Call → Bool
  is_showing (authorization query decision farm handed) = false
  is_showing (token header body handed) =
      is_admitted clients header body && is_exchange body && is_some (read_handle (value_of body (bytes "code")))
  is_showing (revocation header body clock output) = false
  is_showing (check presented clock) = false

  -- a call is such an exchange, or is read as something else and shows no code
  data ShownBy : Call → Type 0 where
    showing : (header body : List ℕ) (handed : Handed) → is_admitted clients header body ≡ true → is_exchange body ≡ true
        → read_token clients header body ≡ exchange_reading clients header body → ShownBy (token header body handed)
    other : (c : Call) → is_exchange_request (asked clients c).request ≡ false → is_showing c ≡ false → ShownBy c

  -- a call at the token endpoint that is not admitted was refused
  unadmitted : (header body : List ℕ) → is_admitted clients header body ≡ false → is_exchange_request (read_token clients header body).request ≡ false
  unfolding is_admitted read_token form_reasons first_of unless_refused
  unadmitted header body = by (is_invalid_form token_names (bytes "grant_type") header body) (is_invalid_client clients header body) _
    where
      by : (form client : Bool) (x : Reading) → (not form && not client) ≡ false
          → is_exchange_request
          (unless_refused (first_of (when form (Token InvalidRequest) ∷ when client (Token InvalidClient) ∷ [])) x).request
          ≡ false
      by true client x e = refl
      by false true x e = refl
      by false false x e = absurd (false≢true (sym e))

  -- nor does one that asks for another grant exchange anything
  unasked : (header body : List ℕ) → is_exchange body ≡ false → is_exchange_request (read_token clients header body).request ≡ false
  unasked header body none = by (token-read clients header body)
    where
      by : ReadAs clients header body (read_token clients header body) → is_exchange_request (read_token clients header body).request ≡ false
      by (refused_as r e) = rw e
      by (exchange_as is e) = absurd (false≢true (sym none ∙ is))
      by (refresh_as _ is e) = rw e
      by (credentials_as _ neither is e) = rw e

  shown_by : (c : Call) → ShownBy c
  unfolding asked is_showing read_authorization read_revocation unless_refused first_of is_missing read_handle is_handle_text only_value
  shown_by (authorization query decision farm handed) =
      let client = client_at clients (query_client clients query) in
      other (authorization query decision farm handed) (by (first_of (page_reasons clients query ++ redirect_reasons client query decision farm))) refl
    where
      by : (d : Decision) → is_exchange_request (unless_refused d (code_reading clients query farm)).request ≡ false
      by (Ok tt) = refl
      by (Err r) = refl
  shown_by (revocation header body clock output) =
      other (revocation header body clock output) (by (first_of (form_reasons revocation_names (bytes "token") clients header body))) refl
    where
      by : (d : Decision) → is_exchange_request (unless_refused d (revocation_reading clients header body)).request ≡ false
      by (Ok tt) = refl
      by (Err r) = refl
  shown_by (check presented clock) = other (check presented clock) refl refl
  shown_by (token header body handed) =
      by-test (is_admitted clients header body)
      (λ a.
      by-test (is_exchange body) (λ x. by a x (form_value body (bytes "code")) refl)
      (λ n. other (token header body handed) (unasked header body n) (rw (a, n))))
      (λ n. other (token header body handed) (unadmitted header body n) (rw n))
    where
      read_as : is_admitted clients header body ≡ true → is_exchange body ≡ true → {v : Value} → form_value body (bytes "code") ≡ v
          → read_token clients header body ≡ unless_missing v (exchange_reading clients header body)
      read_as a x e = exchange-read clients header body a x ∙ ap (λ (v : Value). unless_missing v (exchange_reading clients header body)) e

      by : is_admitted clients header body ≡ true → is_exchange body ≡ true → (v : Value) → form_value body (bytes "code") ≡ v
          → ShownBy (token header body handed)
      by a x missing e =
          other (token header body handed) (ap (λ (r : Reading). is_exchange_request r.request) (read_as a x e)) (rw (a, x, e))
      by a x (once v) e = showing header body handed a x (read_as a x e)
      by a x repeated e = showing header body handed a x (read_as a x e)

-- ---- by the issues that stand

-- a text that is no handle's shows nothing that was issued
none-held : (t : ℕ) (p : Option (List ℕ)) (r : ExchangeRequest) (held : List Held) → is_some p ≡ false → any (is_shown_held t p r) held ≡ false
unfolding any
none-held t (Some h) r held e = absurd (false≢true (sym e))
none-held t None r [] e = refl
none-held t None r (x ∷ xs) e =
    rw (and-false (is_sought sought_spent (as_slot x)), and-false (is_live t (as_slot x))) (none-held t None r xs e)

-- what stands of a request that is no exchange
refusal-keeps : (t : ℕ) (held : List Held) (p : Option (List ℕ)) (request : Request) → is_exchange_request request ≡ false → held_after_refusal t held p request ≡ held
unfolding held_after_refusal
refusal-keeps t held p (Refused r) e = refl
refusal-keeps t held p (Code r) e = refl
refusal-keeps t held p (Exchange r) e = absurd (false≢true (sym e))
refusal-keeps t held p (Refresh r) e = refl
refusal-keeps t held p (Credentials r) e = refl
refusal-keeps t held p (Revocation r) e = refl

module _ (clients : List Client) (held : List Held) (t : ℕ) where
  abbrev issues : List Issue
  issues = map (as_issue clients) held

  module _ (header body : List ℕ) where
    abbrev text : List ℕ
    text = value_of body (bytes "code")

    -- a live spent code of the caller's stands, in the claim's words
    shown-held : any (λ e. is_live_at t e && (is_a spent e && is_of text e && eqb e.client (caller clients header body))) issues
        ≡ any (is_shown_held t (read_handle text) (exchange_asked clients header body)) held
    shown-held =
        any-map (as_issue clients) _ held
        ∙ ap (λ (k : Held → Bool). any k held)
        (fun_ext (λ e.
        rw (caller-is clients header body)
        (ap₂ ◌&&◌ (issue-live clients t e) (ap (λ (b : Bool). b && eqb e.client (call_client clients header body)) (issue-key clients spent text e)))))

  second_none : (c : Call) → is_showing clients c ≡ false → is_second_showing clients t issues c ≡ false
  unfolding is_showing is_second_showing
  second_none (authorization query decision farm handed) e = refl
  second_none (token header body handed) e =
      ap (λ (b : Bool). is_admitted clients header body && is_exchange body && b) (shown-held header body) ∙ by (is_admitted clients header body && is_exchange body) e
    where
      by : (b : Bool) → (b && is_some (read_handle (text header body))) ≡ false
          → (b && any (is_shown_held t (read_handle (text header body)) (exchange_asked clients header body)) held) ≡ false
      by true e = none-held t (read_handle (text header body)) (exchange_asked clients header body) held e
      by false e = refl
  second_none (revocation header body clock output) e = refl
  second_none (check presented clock) e = refl

  -- of a code that is shown
  exchange-withdrawn : (header body : List ℕ) (handed : Handed) → is_admitted clients header body ≡ true → is_exchange body ≡ true
      → read_token clients header body ≡ exchange_reading clients header body
      → let c = token header body handed in
      keep (λ e. not (is_second_showing clients t issues c && is_token_from (code_shown c) e)) issues
      ≡ map (as_issue clients) (held_after_refusal t held (asked clients c).presented (asked clients c).request)
  unfolding is_second_showing code_shown asked held_after_refusal
  exchange-withdrawn header body handed a x read =
      rw (a, x, read, shown-held header body)
      (by (any (is_shown_held t p (exchange_asked clients header body)) held))
    where
      p : Option (List ℕ)
      p = read_handle (text header body)

      by : (b : Bool)
          → keep (λ e. not (b && is_token_from (text header body) e)) issues
          ≡ map (as_issue clients) (cond b (keep (λ e. not (is_issued_on p (as_slot e))) held) held)
      by true =
          keep-map (as_issue clients) (λ e. not (is_token_from (text header body) e)) held
          ∙ ap (λ (k : Held → Bool). map (as_issue clients) (keep k held))
          (fun_ext (λ h. ap not (issue-from clients (text header body) h)))
      by false = keep_all issues

  -- what a second showing withdraws of the issues is what it withdraws of what they are read from
  pub withdrawn-shown : (c : Call) → keep (λ e. not (is_withdrawn_by clients t issues c e)) issues
      ≡ map (as_issue clients) (held_after_refusal t held (asked clients c).presented (asked clients c).request)
  unfolding is_withdrawn_by
  withdrawn-shown c = by (shown_by clients c)
    where
      Withdrawn : Call → Bool → Type 0
      Withdrawn c second =
          keep (λ e. not (second && is_token_from (code_shown c) e)) issues
          ≡ map (as_issue clients) (held_after_refusal t held (asked clients c).presented (asked clients c).request)

      by : {c : Call} → ShownBy clients c → Withdrawn c (is_second_showing clients t issues c)
      by (other c unread none) =
          subst (Withdrawn c) (sym (second_none c none))
          (keep_all issues
          ∙ ap (λ (l : List Held). map (as_issue clients) l)
          (sym (refusal-keeps t held (asked clients c).presented (asked clients c).request unread)))
      by (showing header body handed a x read) = exchange-withdrawn header body handed a x read

-- ---- by the slots

-- what a refusal of a request that is no exchange leaves
unread-denied : (t : ℕ) (slots : List Slot) (random : List ℕ) (p d : Option (List ℕ)) (request : Request)
    → is_exchange_request request ≡ false → (plan_for t slots random p d request).denied ≡ slots
unfolding plan_definitions
unread-denied t slots random p d (Refused r) e = refl
unread-denied t slots random p d (Code r) e = refl
unread-denied t slots random p d (Exchange r) e = absurd (false≢true (sym e))
unread-denied t slots random p d (Refresh r) e = refl
unread-denied t slots random p d (Credentials r) e = refl
unread-denied t slots random p d (Revocation r) e = refl

module _ (clients : List Client) (t : ℕ) (slots : List Slot) where
  -- the call shows a spent code again
  unfoldable pub is_again : Call → Bool
  is_again (authorization query decision farm handed) = false
  is_again (token header body handed) =
      is_admitted clients header body && is_exchange body
      && is_shown_again t (call_client clients header body) (read_handle (value_of body (bytes "code"))) slots
  is_again (revocation header body clock output) = false
  is_again (check presented clock) = false

  -- a text that is no handle's shows no code again
  again-none : (p : Option (List ℕ)) (client : ℕ) → is_some p ≡ false → is_shown_again t client p slots ≡ false
  again-none (Some h) client e = absurd (false≢true (sym e))
  again-none None client e = rw (none-shown sought_spent slots, free-dead t) (and-false (not (any (sought_key sought_code None) slots)))

  unshown-again : (c : Call) → is_showing clients c ≡ false → is_again c ≡ false
  unfolding is_showing is_again
  unshown-again (authorization query decision farm handed) e = refl
  unshown-again (token header body handed) e = by (is_admitted clients header body && is_exchange body) e
    where
      p : Option (List ℕ)
      p = read_handle (value_of body (bytes "code"))

      by : (b : Bool) → (b && is_some p) ≡ false → (b && is_shown_again t (call_client clients header body) p slots) ≡ false
      by true e = again-none p (call_client clients header body) e
      by false e = refl
  unshown-again (revocation header body clock output) e = refl
  unshown-again (check presented clock) e = refl

  exchange-denied : (random header body : List ℕ) (handed : Handed) → is_admitted clients header body ≡ true → is_exchange body ≡ true
      → read_token clients header body ≡ exchange_reading clients header body
      → let c = token header body handed in
      (plan_of t slots random (asked clients c)).denied ≡ cond (is_again c) (without_issued_on (read_handle (code_shown c)) slots) slots
  unfolding is_again code_shown asked plan_for exchange_plan
  exchange-denied random header body handed a x read = rw (read, a, x)

  -- what a call that is refused leaves
  pub denied-is : (random : List ℕ) (c : Call)
      → (plan_of t slots random (asked clients c)).denied ≡ cond (is_again c) (without_issued_on (read_handle (code_shown c)) slots) slots
  denied-is random c = by (shown_by clients c)
    where
      by : {c : Call} → ShownBy clients c
          → (plan_of t slots random (asked clients c)).denied ≡ cond (is_again c) (without_issued_on (read_handle (code_shown c)) slots) slots
      by (other c unread none) =
          unread-denied t slots random (asked clients c).presented (asked clients c).challenge (asked clients c).request unread
          ∙ ap (λ (b : Bool). cond b (without_issued_on (read_handle (code_shown c)) slots) slots) (sym (unshown-again c none))
      by (showing header body handed a x read) = exchange-denied random header body handed a x read

  -- where no random bytes came twice, a call shows a code again exactly when it is a second showing in the claim's words
  pub again-second : {held : List Held} {seen : List (List ℕ)} → Invariant t slots held seen → NeverTwice seen → (c : Call)
      → is_second_showing clients t (map (as_issue clients) held) c ≡ is_again c
  unfolding is_second_showing is_again
  again-second v never (authorization query decision farm handed) = refl
  again-second {held} v never (token header body handed) =
      ap (λ (b : Bool). is_admitted clients header body && is_exchange body && b)
      (shown-held clients held t header body ∙ sym (shown-again v never (read_handle (value_of body (bytes "code"))) (call_client clients header body)))
  again-second v never (revocation header body clock output) = refl
  again-second v never (check presented clock) = refl

  -- a call that shows a code again does so by the text of a handle, and is refused as `invalid_grant`
  pub again-valid : (c : Call) → is_again c ≡ true → is_some (read_handle (code_shown c)) ≡ true
  unfolding is_again code_shown
  again-valid (authorization query decision farm handed) e = absurd (false≢true e)
  again-valid (token header body handed) e =
      let p = read_handle (value_of body (bytes "code")) in
      let again = is_shown_again t (call_client clients header body) p slots in
      by-test (is_some p) (λ y. y)
      (λ n.
      let none = again-none p (call_client clients header body) n in
      absurd (false≢true (sym none ∙ and_right (is_admitted clients header body && is_exchange body) again e)))
  again-valid (revocation header body clock output) e = absurd (false≢true e)
  again-valid (check presented clock) e = absurd (false≢true e)

  exchange-refused : (random header body : List ℕ) (handed : Handed) → read_token clients header body ≡ exchange_reading clients header body
      → is_again (token header body handed) ≡ true
      → decision_on (plan_of t slots random (asked clients (token header body handed))) ≡ Err (Token InvalidGrant)
  unfolding is_again asked plan_for exchange_plan first_of
  exchange-refused random header body handed read e =
      let p = read_handle (value_of body (bytes "code")) in
      let client = call_client clients header body in
      let again = and_right (is_admitted clients header body && is_exchange body) (is_shown_again t client p slots) e in
      let unspent = any (sought_key sought_code p) slots in
      let none = not-true unspent (and_left (not unspent) (is_own t client (shown_slot sought_spent p slots)) again) in
      rw (read, first_or-none (sought_key sought_code p) free_slot slots none, free-dead t)

  pub again-refused : (random : List ℕ) (c : Call) → is_again c ≡ true → decision_on (plan_of t slots random (asked clients c)) ≡ Err (Token InvalidGrant)
  again-refused random c = by (shown_by clients c)
    where
      by : {c : Call} → ShownBy clients c → is_again c ≡ true → decision_on (plan_of t slots random (asked clients c)) ≡ Err (Token InvalidGrant)
      by (other c unread none) e = absurd (false≢true (sym (unshown-again c none) ∙ e))
      by (showing header body handed a x read) e = exchange-refused random header body handed read e
