-- What the claim reads from a call that is served is what its request issued and ended (`standing-shown`): the code and the tokens in
-- its answer are its random bytes in hex, and the values of its form are what it was read as.
--
-- In order: parts of the answer; a call that is granted; a code; tokens on a code; a token on a refresh token; a client's token for
-- itself; a token that is revoked; any call.
-- Assumes nothing.
use mathlib.Core.Path.{◌≡◌, refl, sym, ap, ap₂, ◌∙◌, fun_ext, subst}
use mathlib.Core.Bool.{Bool, true, false, cond, not, ◌&&◌, ◌||◌, false≢true}
use mathlib.Core.List.{List, [], ◌∷◌, ◌++◌, map, map-id, map-map, append_assoc}
use Prim.Native.Nat.{ℕ, ◌+◌, ◌≤◌}
use Rattle.std.specs.Prelude.{Ok, Err, is_some}
use native.Mathlib.Omega.{arith}
use borrow.Author.Tests.{not-false}
use lib.Dec.{lit<}
use lib.ListN.{length, take, length-append}
use lib.Seq.{take_at, drop_at}
use Rattle.octets.specs.Text.{bytes}
use Rattle.octets.specs.Lists.{part, same}
use Rattle.octets.specs.Search.{keep, first_or}
use Rattle.octets.proofs.Booleans.{or-none}
use Rattle.octets.proofs.Lists.{same-eq}
use Rattle.octets.proofs.Counting.{keep_all, keep-map, first_or-map}
use Rattle.encoding.specs.Hex.{hex_text, read_handle}
use Rattle.encoding.specs.Base64.{url, base64_text}
use Rattle.encoding.proofs.Hex.{hex-length}
use Rattle.form.specs.Content.{Value, missing, once, repeated, form_value, is_missing, is_repeated, is_once, only_value}
use Rattle.scope.specs.Value.{scope_text}
use Rattle.client_registry.specs.Layout.{redirect_room}
use Rattle.client_registry.specs.Registry.{Client}
use Rattle.client_registry.specs.Lookup.{is_known, client_at}
use Rattle.token_store.specs.Store.{Store, call_time, sought_key}
use Rattle.token_store.specs.declared.Slot.{Slot}
use Rattle.token_store.specs.declared.Sought.TheVariants.{Code as sought_code, Refresh as sought_refresh}
use Rattle.protocol.specs.declared.PageCause.TheVariants.{Query}
use Rattle.protocol.specs.declared.Refusal.{Refusal}
use Rattle.protocol.specs.declared.Refusal.TheVariants.{ErrorPage}
use Rattle.protocol.specs.declared.Reading.{Reading}
use Rattle.protocol.specs.Answers.{is_grant, Decision}
use Rattle.protocol.specs.Refusals.{Reason, first_of as first_reason}
use Rattle.protocol.specs.Requests.{refused_reading, unless_refused}
use Rattle.protocol.specs.Authorization.{query_client, is_bad_client, is_bad_redirect, is_bad_state, is_invalid_request, challenge_given, code_asked, code_reading, page_reasons, redirect_reasons, read_authorization, separator, state_text, location, code_parameter, location_text}
use Rattle.protocol.specs.ClientForms.{call_client, form_reasons}
use Rattle.protocol.specs.Token.{read_token, token_reply, refresh_member}
use Rattle.protocol.specs.Revocation.{revocation_names, read_revocation}
use Rattle.protocol.specs.Granting.{first_handle, second_handle, Plan, refused_plan, exchange_plan, plan_for, plan_of, decision_on}
use Rattle.protocol.specs.Outcomes.{Handed, reply_text}
use Rattle.protocol.proofs.Reasons.{unrefused}
use Rattle.protocol.proofs.Lengths.{separator-length}
use Rattle.history.specs.Calls.{Call, authorization, token, revocation, check, handed_to, Result}
use Rattle.history.specs.Server.{result_of}
use Rattle.history.specs.Contents.{Sort, code, access, refresh, Issue, is_a, is_of, no_issue, origin_of, value_of, is_exchange, is_refresh, is_credentials, asked_or, lifetime, forty_at, code_in, access_in, refresh_in, code_issue, token_issue, exchange_issues, refresh_issues, own_issue, issued_by, is_spent_by, as_spent, after_grant, is_withdrawn_by, goes_with, is_revoked_by, standing_after, twenties}
use Rattle.history.proofs.Challenges.{FitChallenge, challenge-shown, link_of}
use Rattle.history.proofs.HeldIssues.{Handle, Held, as_slot, as_issue, spent_held, sought, none_held, issue-key}
use Rattle.history.proofs.Invariant.{origin_held, spend_held}
use Rattle.history.proofs.Readings.{given-asked, only_of, first_of, second_of, Brings, BringsAs}
use Rattle.history.proofs.Revoked.{goes_with_slot, is_revoked_held, goes-issue, any-revocable}
use Rattle.history.proofs.OneRequest.{code_held, token_held, client_held, issued_held, kept_held, held_after, held_after_refusal}
use Rattle.history.proofs.Asking.{caller-is, exchange_reading, refresh_reading, credentials_reading, revocation_reading, ReadAs, refused_as, exchange_as, refresh_as, credentials_as, token-read}
use Rattle.history.proofs.AnyCall.{outcome_on, asked, unfit_to, plan_on, granted-on}
use Rattle.history.proofs.SecondShowing.{withdrawn-shown}
use Rattle.history.proofs.Written.{text_on, written-text, written_on}

-- ---- parts of the answer

-- forty characters behind a text
behind : (before h after : List ℕ) (at : ℕ) → length before ≡ at → length h ≡ 40 → part (before ++ (h ++ after)) at 40 ≡ h
behind before h after at e n = ap (λ (l : List ℕ). take 40 l) (drop_at before (h ++ after) at e) ∙ take_at h after 40 n

hex-forty : (h : List ℕ) → length h ≡ 20 → length (hex_text h) ≡ 40
hex-forty h n = omega (arith, hex-length h)

code-part : (redirect h : List ℕ) (state : Value) → length h ≡ 20
    → part (location redirect (code_parameter h) state) (length redirect + 1 + length (bytes "code=")) 40 ≡ hex_text h
unfolding location code_parameter
code-part redirect h state n =
    simp append_assoc
    (simp append_assoc at
    (behind (redirect ++ separator redirect ++ bytes "code=") (hex_text h) (state_text state) (length redirect + 1 + length (bytes "code="))
    (simp length-append (omega (arith, separator-length redirect))) (hex-forty h n)))

abbrev before_access : List ℕ
before_access = bytes "{\"access_token\":\""

abbrev before_refresh : List ℕ
before_refresh = bytes "\",\"token_type\":\"Bearer\",\"expires_in\":3600,\"refresh_token\":\""

access-part : (h between : List ℕ) (scope : ℕ) → length h ≡ 20 → part (token_reply h between scope) (length before_access) 40 ≡ hex_text h
unfolding token_reply
access-part h between scope n =
    let after = bytes "\",\"token_type\":\"Bearer\",\"expires_in\":3600," ++ between ++ bytes "\"scope\":\"" ++ scope_text scope ++ bytes "\"}" in
    simp append_assoc (simp append_assoc at (behind before_access (hex_text h) after (length before_access) refl (hex-forty h n)))

-- and behind a second text
second-behind : (before h between name k end x y z : List ℕ) (at : ℕ) → length before + 40 + (length between + length name) ≡ at
    → length h ≡ 40 → length k ≡ 40 → part (before ++ h ++ between ++ (name ++ k ++ end) ++ x ++ y ++ z) at 40 ≡ k
second-behind before h between name k end x y z at e n m =
    simp append_assoc
    (simp append_assoc at
    (behind (before ++ h ++ between ++ name) k (end ++ x ++ y ++ z) at (simp length-append (omega (arith, n, e))) m))

refresh-part : (h k : List ℕ) (scope : ℕ) → length h ≡ 20 → length k ≡ 20
    → part (token_reply h (refresh_member k) scope) (length before_access + 40 + length before_refresh) 40 ≡ hex_text k
unfolding token_reply refresh_member
refresh-part h k scope n m =
    second-behind before_access (hex_text h) (bytes "\",\"token_type\":\"Bearer\",\"expires_in\":3600,") (bytes "\"refresh_token\":\"") (hex_text k)
    (bytes "\",") (bytes "\"scope\":\"") (scope_text scope) (bytes "\"}") (length before_access + 40 + length before_refresh) refl (hex-forty h n)
    (hex-forty k m)

-- ---- a call that is granted

module _ (t : ℕ) (slots : List Slot) (random : List ℕ) where
  abbrev IsGranted : Reading → Type 0
  IsGranted reading = is_grant (decision_on (plan_of t slots random reading)) ≡ true

  pub never-refused : {A : Type 0} (r : Refusal) → IsGranted (refused_reading r) → A
  unfolding plan_for refused_plan first_reason is_grant
  never-refused r e = absurd (false≢true e)

  pub unless-granted : (d : Decision) (x : Reading) → IsGranted (unless_refused d x) → d ≡ Ok tt
  unfolding unless_refused
  unless-granted (Ok tt) x e = refl
  unless-granted (Err r) x e = never-refused r e

  -- a reading is granted where no reason refuses it before, and it is
  pub unless-grants : (d : Decision) (x : Reading)
      → is_grant (decision_on (plan_of t slots random (unless_refused d x))) ≡ (is_grant d && is_grant (decision_on (plan_of t slots random x)))
  unfolding unless_refused plan_for refused_plan first_reason is_grant
  unless-grants (Ok tt) x = refl
  unless-grants (Err r) x = refl

pub is-grant : (d : Decision) → is_grant d ≡ true → d ≡ Ok tt
unfolding is_grant
is-grant (Ok tt) e = refl
is-grant (Err r) e = absurd (false≢true e)

-- an address that is neither repeated nor another's
own-address : (redirect : List ℕ) (given : Value) → is_repeated given ≡ false → (not (is_missing given) && not (is_once redirect given)) ≡ false
    → given ≡ cond (not (is_missing given)) (once redirect) missing
unfolding is_missing is_repeated is_once
own-address redirect missing a b = refl
own-address redirect (once v) a b = ap once (same-eq v redirect (not-false (same v redirect) b))
own-address redirect repeated a b = absurd (false≢true (sym a))

-- ---- what a call that is granted issues and ends

module _ (clients : List Client) (held : List Held) where
  abbrev issues : List Issue
  issues = map (as_issue clients) held

  -- a look-up by the claim's words finds what a look-up by the slots finds
  pub origin-shown : {A : Type 0} (f : Issue → A) (sort : Sort) (text : List ℕ) → f no_issue ≡ f (as_issue clients none_held)
      → f (origin_of sort text issues) ≡ f (as_issue clients (origin_held (sought sort) (read_handle text) held))
  origin-shown f sort text none =
      first_or-map (as_issue clients) f no_issue none_held none (λ e. is_a sort e && is_of text e) held
      ∙ ap (λ (k : Held → Bool). f (as_issue clients (first_or none_held k held))) (fun_ext (issue-key clients sort text))

  -- a token on the code that a text presents, and on the refresh token
  module _ (t : ℕ) (sort : Sort) (text : List ℕ) (h : Handle) (e : text ≡ hex_text h.octets) (presented : List ℕ) where
    on-code : let o = origin_of code presented issues in
        let x = origin_held sought_code (read_handle presented) held in
        token_issue sort t text o o.text o.scope ≡ as_issue clients (token_held sort t h x x.handle x.scope)
    unfolding no_issue none_held
    on-code =
        let o = origin_of code presented issues in
        ap (λ (l : List ℕ). token_issue sort t l o o.text o.scope) e
        ∙ origin-shown (λ x. token_issue sort t (hex_text h.octets) x x.text x.scope) code presented refl

    on-refresh : (f : ℕ → ℕ) → let o = origin_of refresh presented issues in
        let x = origin_held sought_refresh (read_handle presented) held in
        token_issue sort t text o o.origin (f o.scope) ≡ as_issue clients (token_held sort t h x x.origin (f x.scope))
    unfolding no_issue none_held
    on-refresh f =
        let o = origin_of refresh presented issues in
        ap (λ (l : List ℕ). token_issue sort t l o o.origin (f o.scope)) e
        ∙ origin-shown (λ x. token_issue sort t (hex_text h.octets) x x.origin (f x.scope)) refresh presented refl

  -- the code that a text presents is spent, in a call that does nothing else to what stands
  all-as : (f : Issue → Issue) (g : Held → Held) → ((e : Held) → f (as_issue clients e) ≡ as_issue clients (g e))
      → map f issues ≡ map (as_issue clients) (map g held)
  all-as f g h =
      map-map f (as_issue clients) held
      ∙ ap (λ (k : Held → Issue). map k held) (fun_ext h)
      ∙ sym (map-map (as_issue clients) g held)

  stays : (f : Issue → Issue) → ((e : Issue) → f e ≡ e) → map f issues ≡ issues
  stays f h = ap (λ (k : Issue → Issue). map k issues) (fun_ext h) ∙ map-id issues

module _ (clients : List Client) (short : (n : ℕ) → length (client_at clients n).redirect ≤ redirect_room) (g : Store) (held : List Held) where
  abbrev result : Call → Result
  result c = result_of (outcome_on clients g c)

  -- the characters of an answer are those of what was written
  forty-text : (c : Call) → unfit_to c ≡ false → (at : ℕ) → forty_at at (result c) ≡ part (text_on clients g c) at 40
  forty-text c fit at = ap (λ (l : List ℕ). part l at 40) (written-text (written_on clients short g c fit))

  -- ---- a code

  module _ (query : List ℕ) (decision farm : ℕ) (handed : Handed) where
    abbrev authorizes : Call
    authorizes = authorization query decision farm handed

    abbrev t : ℕ
    t = call_time g handed.clock

    abbrev number : ℕ
    number = query_client clients query

    abbrev reasons : List Reason
    reasons = page_reasons clients query ++ redirect_reasons (client_at clients number) query decision farm

    -- an address that was given is the client's
    address-given : first_reason reasons ≡ Ok tt
        → let given = form_value query (bytes "redirect_uri") in
        given ≡ cond (not (is_missing given)) (once (client_at clients number).redirect) missing
    unfolding page_reasons redirect_reasons is_bad_client is_bad_redirect is_grant
    address-given e =
        let given = form_value query (bytes "redirect_uri") in
        let id = form_value query (bytes "client_id") in
        let passed = ap is_grant e in
        let named = is_repeated id || is_missing id || not (is_known (only_value id) clients) in
        own-address (client_at clients number).redirect given (or-none named (is_repeated given) (unrefused reasons passed 1 (lit< tt))).1
        (unrefused reasons passed 2 (lit< tt))

    -- the challenge that was given is what was read
    challenge-given : first_reason reasons ≡ Ok tt
        → let given = challenge_given (form_value query (bytes "code_challenge")) in
        form_value query (bytes "code_challenge") ≡ cond (is_some given) (once (base64_text url (link_of given))) missing
    unfolding page_reasons redirect_reasons is_invalid_request is_grant
    challenge-given e =
        let type = form_value query (bytes "response_type") in
        let others = is_missing type || is_repeated type || is_repeated (form_value query (bytes "scope")) || is_bad_state (form_value query (bytes "state")) in
        challenge-shown (client_at clients number) _ (form_value query (bytes "code_challenge_method"))
        (or-none others _ (unrefused reasons (ap is_grant e) 3 (lit< tt))).1

    pub code-text : unfit_to authorizes ≡ false → IsGranted t g.slots handed.random (read_authorization clients query decision farm)
        → length (first_handle handed.random) ≡ 20
        → code_in (client_at clients number) (result authorizes) ≡ hex_text (first_handle handed.random)
    unfolding text_on location_text asked handed_to
    code-text fit granted size =
        let redirect = (client_at clients number).redirect in
        let state = form_value query (bytes "state") in
        let first = first_handle handed.random in
        let at = length redirect + 1 + length (bytes "code=") in
        forty-text authorizes fit at
        ∙ ap (λ (d : Decision). part (location_text redirect state first d) at 40) (is-grant (decision_on (plan_on clients g authorizes)) granted)
        ∙ code-part redirect first state size

    code-issued : unfit_to authorizes ≡ false → IsGranted t g.slots handed.random (read_authorization clients query decision farm)
        → (h : Handle) → h.octets ≡ first_handle handed.random → (f : FitChallenge (code_reading clients query farm).challenge)
        → code_issue clients t query farm (result authorizes) ≡ as_issue clients (code_held t h f (code_asked clients query farm))
    unfolding code_issue code_asked query_client read_authorization
    code-issued fit granted h e f =
        let text = code-text fit granted (ap length (sym e) ∙ h.size) ∙ ap hex_text (sym e) in
        let scope = sym (given-asked (form_value query (bytes "scope")) (client_at clients number).scope) in
        let unrefused = unless-granted t g.slots handed.random (first_reason reasons) (code_reading clients query farm) granted in
        let address = address-given unrefused in
        let challenge = challenge-given unrefused in
        λ i. record {
          sort = code;
          text = text i;
          client = number;
          farm = farm;
          scope = scope i;
          address = address i;
          challenge = challenge i;
          expiry = t + lifetime code;
          origin = text i;
        }

    -- what stands after it
    abbrev CodeStands : Reading → Type 0
    CodeStands reading =
        (q : BringsAs (length clients) handed.random (twenties authorizes) reading)
        → code_issue clients t query farm (result authorizes) ∷ map (after_grant authorizes) (issues clients held)
        ≡ map (as_issue clients)
        (held_after t held (length clients) handed.random (twenties authorizes) reading.presented reading.challenge reading.request q)

    code-stands : unfit_to authorizes ≡ false → IsGranted t g.slots handed.random (read_authorization clients query decision farm)
        → CodeStands (read_authorization clients query decision farm)
    unfolding read_authorization unless_refused is_spent_by issued_held kept_held Brings
    code-stands fit granted =
        subst (λ (d : Decision). CodeStands (unless_refused d (code_reading clients query farm)))
        (sym (unless-granted t g.slots handed.random (first_reason reasons) (code_reading clients query farm) granted))
        (λ q. ap₂ {C = List Issue} (λ e es. e ∷ es) (code-issued fit granted (only_of q.0) refl q.2)
        (stays clients held (after_grant authorizes) (λ e. refl)))

  -- ---- tokens

  module _ (header body : List ℕ) (handed : Handed) (fit : unfit_to (token header body handed) ≡ false) where
    abbrev asks : Call
    asks = token header body handed

    abbrev at : ℕ
    at = call_time g handed.clock

    abbrev first : List ℕ
    first = first_handle handed.random

    abbrev second : List ℕ
    second = second_handle handed.random

    abbrev GrantedAs : Reading → Type 0
    GrantedAs reading = IsGranted at g.slots handed.random reading

    module _ {reading : Reading} (read : read_token clients header body ≡ reading) (granted : GrantedAs reading) where
      -- what is written, for any part of it
      reply-shown : (place : ℕ) → forty_at place (result asks)
          ≡ part (reply_text handed.random (plan_of at g.slots handed.random reading) (Ok tt)) place 40
      unfolding text_on asked handed_to
      reply-shown place =
          let plan : Reading → Plan = λ r. plan_of at g.slots handed.random r in
          forty-text asks fit place
          ∙ ap (λ (r : Reading). part (reply_text handed.random (plan r) (decision_on (plan r))) place 40) read
          ∙ ap (λ (d : Decision). part (reply_text handed.random (plan reading) d) place 40) (is-grant (decision_on (plan reading)) granted)

      pub access-text : length first ≡ 20 → access_in (result asks) ≡ hex_text first
      unfolding reply_text
      access-text size = reply-shown (length before_access) ∙ access-part first _ _ size

    -- ---- tokens on a code

    abbrev exchanges : Reading
    exchanges = exchange_reading clients header body

    pub refresh-text : read_token clients header body ≡ exchanges → GrantedAs exchanges → length first ≡ 20 → length second ≡ 20
        → refresh_in (result asks) ≡ hex_text second
    unfolding reply_text plan_for exchange_plan
    refresh-text read granted n m =
        reply-shown read granted (length before_access + 40 + length before_refresh) ∙ refresh-part first second _ n m

    abbrev Stands : Reading → Type 0
    Stands reading =
        GrantedAs reading → (q : BringsAs (length clients) handed.random (twenties asks) reading)
        → issued_by clients at (issues clients held) asks (result asks) ++ map (after_grant asks) (issues clients held)
        ≡ map (as_issue clients) (held_after at held (length clients) handed.random (twenties asks) reading.presented reading.challenge reading.request q)

    -- the code that is presented is spent
    code-spent : is_exchange body ≡ true → (e : Held)
        → after_grant asks (as_issue clients e) ≡ as_issue clients (spend_held (read_handle (value_of body (bytes "code"))) e)
    unfolding is_spent_by
    code-spent is e = rw (is, issue-key clients code (value_of body (bytes "code")) e) (by (sought_key sought_code (read_handle (value_of body (bytes "code"))) (as_slot e)))
      where
        by : (b : Bool) → cond b (as_spent (as_issue clients e)) (as_issue clients e) ≡ as_issue clients (cond b (spent_held e) e)
        by true = refl
        by false = refl

    -- any other grant spends nothing
    none-spent : is_exchange body ≡ false → map (after_grant asks) (issues clients held) ≡ issues clients held
    unfolding is_spent_by
    none-spent other = stays clients held (after_grant asks) (λ e. rw other)

    exchange-stands : is_exchange body ≡ true → read_token clients header body ≡ exchanges → Stands exchanges
    unfolding issued_by exchange_issues issued_held kept_held Brings
    exchange-stands is read granted q =
        let first = first_of q in
        let second = second_of q in
        let text = value_of body (bytes "code") in
        let refreshed = on-code clients held at refresh _ second (refresh-text read granted first.size second.size) text in
        let accessed = on-code clients held at access _ first (access-text read granted first.size) text in
        let others = all-as clients held (after_grant asks) (spend_held (read_handle text)) (code-spent is) in
        rw is (ap₂ {C = List Issue} (λ e es. e ∷ es) refreshed (ap₂ {C = List Issue} (λ e es. e ∷ es) accessed others))

    -- ---- a token on a refresh token

    abbrev refreshes : Reading
    refreshes = refresh_reading clients header body

    refresh-stands : is_exchange body ≡ false → is_refresh body ≡ true → read_token clients header body ≡ refreshes → Stands refreshes
    unfolding issued_by refresh_issues issued_held kept_held Brings
    refresh-stands other is read granted q =
        let first = first_of q.0 in
        let text = value_of body (bytes "refresh_token") in
        let scope = form_value body (bytes "scope") in
        let accessed = on-refresh clients held at access _ first (access-text read granted first.size) text (λ s. asked_or scope s) in
        let o = origin_held sought_refresh (read_handle text) held in
        let given = ap (λ (s : ℕ). as_issue clients (token_held access at first o o.origin s)) (sym (given-asked scope o.scope)) in
        rw (none-spent other, other, is) (ap {B = List Issue} (λ e. e ∷ issues clients held) (accessed ∙ given))

    -- ---- a client's token for itself

    abbrev itself : Reading
    itself = credentials_reading clients header body

    credentials-stands : is_exchange body ≡ false → is_refresh body ≡ false → is_credentials body ≡ true → read_token clients header body ≡ itself
        → Stands itself
    unfolding issued_by own_issue issued_held kept_held Brings
    credentials-stands other neither is read granted q =
        let first = first_of q.0 in
        let number = call_client clients header body in
        let text = access-text read granted first.size in
        let scope = sym (given-asked (form_value body (bytes "scope")) (client_at clients number).scope) in
        rw (none-spent other, other, neither, is, caller-is clients header body, text)
        (ap {B = List Issue} (λ s. as_issue clients (client_held at first (record { client = number; scope = s })) ∷ issues clients held) scope)

    token-stands : Stands (read_token clients header body)
    token-stands = by (token-read clients header body)
      where
        by : ReadAs clients header body (read_token clients header body) → Stands (read_token clients header body)
        by (refused_as r e) = rw e (λ granted q. never-refused at g.slots handed.random r granted)
        by (exchange_as is e) = subst Stands (sym e) (exchange-stands is e)
        by (refresh_as other is e) = subst Stands (sym e) (refresh-stands other is e)
        by (credentials_as other neither is e) = subst Stands (sym e) (credentials-stands other neither is e)

  -- ---- a token that is revoked

  module _ (header body : List ℕ) (clock : ℕ) (output : List ℕ) where
    abbrev revokes : Call
    revokes = revocation header body clock output

    abbrev now : ℕ
    now = call_time g clock

    abbrev RevocationStands : Reading → Type 0
    RevocationStands reading =
        (q : BringsAs (length clients) [] [] reading)
        → map (after_grant revokes) (keep (λ e. not (is_revoked_by clients now (issues clients held) revokes e)) (issues clients held))
        ≡ map (as_issue clients) (held_after now held (length clients) [] [] reading.presented reading.challenge reading.request q)

    -- what goes with it by the issues is what goes with it by the slots
    revoked-shown : (e : Held) → is_revoked_by clients now (issues clients held) revokes (as_issue clients e)
        ≡ is_revoked_held now (read_handle (value_of body (bytes "token"))) (call_client clients header body) held (as_slot e)
    unfolding is_revoked_by
    revoked-shown e =
        any-revocable clients now header body held (λ x. goes_with x (as_issue clients e)) (λ s. goes_with_slot s (as_slot e)) (λ x. goes-issue clients x e)

    revocation-stands : IsGranted now g.slots [] (read_revocation clients header body) → RevocationStands (read_revocation clients header body)
    unfolding read_revocation unless_refused is_spent_by issued_held kept_held
    revocation-stands granted =
        let reasons = form_reasons revocation_names (bytes "token") clients header body in
        let reading = revocation_reading clients header body in
        subst (λ (d : Decision). RevocationStands (unless_refused d reading)) (sym (unless-granted now g.slots [] (first_reason reasons) reading granted))
        (λ q. map-id _
        ∙ keep-map (as_issue clients) _ held
        ∙ ap (λ (k : Held → Bool). map (as_issue clients) (keep k held)) (fun_ext (λ e. ap not (revoked-shown e))))

  -- ---- any call

  granted-shown : (c : Call) → unfit_to c ≡ false
      → (q : BringsAs (length clients) (handed_to c).random (twenties c) (asked clients c))
      → is_grant (decision_on (plan_on clients g c)) ≡ true
      → let time = call_time g (handed_to c).clock in
      issued_by clients time (issues clients held) c (result c)
      ++ map (after_grant c) (keep (λ e. not (is_revoked_by clients time (issues clients held) c e)) (issues clients held))
      ≡ map (as_issue clients)
      (held_after time held (length clients) (handed_to c).random (twenties c) (asked clients c).presented (asked clients c).challenge
      (asked clients c).request q)
  unfolding issued_by is_revoked_by handed_to asked twenties
  granted-shown (authorization query decision farm handed) fit q e =
      rw (keep_all (issues clients held)) (code-stands query decision farm handed fit e q)
  granted-shown (token header body handed) fit q e = rw (keep_all (issues clients held)) (token-stands header body handed fit e q)
  granted-shown (revocation header body clock output) fit q e = revocation-stands header body clock output e q
  granted-shown (check presented clock) fit q e = never-refused (call_time g clock) g.slots [] (ErrorPage Query) e

  pub standing-shown : (c : Call) → unfit_to c ≡ false
      → (q : BringsAs (length clients) (handed_to c).random (twenties c) (asked clients c))
      → let time = call_time g (handed_to c).clock in
      let reading = asked clients c in
      standing_after clients time (issues clients held) c (result c)
      ≡ map (as_issue clients)
      (cond (is_grant (decision_on (plan_on clients g c)))
      (held_after time held (length clients) (handed_to c).random (twenties c) reading.presented reading.challenge reading.request q)
      (held_after_refusal time held reading.presented reading.request))
  unfolding standing_after
  standing-shown c fit q =
      ap (λ (b : Bool). cond b read left) (granted-on clients g c) ∙ by (is_grant (decision_on (plan_on clients g c))) refl
    where
      time : ℕ
      time = call_time g (handed_to c).clock

      after : List Held
      after =
          held_after time held (length clients) (handed_to c).random (twenties c) (asked clients c).presented
          (asked clients c).challenge (asked clients c).request q

      after_refusal : List Held
      after_refusal = held_after_refusal time held (asked clients c).presented (asked clients c).request

      read : List Issue
      read =
          issued_by clients time (issues clients held) c (result c)
          ++ map (after_grant c) (keep (λ e. not (is_revoked_by clients time (issues clients held) c e)) (issues clients held))

      left : List Issue
      left = keep (λ e. not (is_withdrawn_by clients time (issues clients held) c e)) (issues clients held)

      by : (b : Bool) → is_grant (decision_on (plan_on clients g c)) ≡ b → cond b read left ≡ map (as_issue clients) (cond b after after_refusal)
      by true e = granted-shown c fit q e
      by false e = withdrawn-shown clients held time c
