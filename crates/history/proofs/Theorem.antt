-- Demand 3: the one claim about every list of calls (`demand3`), and what is claimed beyond it (`credentials-yield`, `revocations`).
--
-- A call that is judged is past refusals 1 to 4, so it is served on the store that the calls before it left, and that store belongs to
-- what they contain (`kept-all`). So what it is answered is what its request is answered there (`exchange-answer` and its siblings), and
-- the claim's tests of the issues that stand are tests of the slots that hold them (HeldIssues).
--
-- In order: a call that is judged; the bytes of a slot; the token endpoint, grant by grant; a revocation; the check; the location; a
-- refused try; the theorem.
-- Assumes nothing.
use mathlib.Core.Path.{◌≡◌, refl, sym, ap, ap₂, ◌∙◌, fun_ext, subst}
use mathlib.Core.Bool.{Bool, true, false, cond, not, ◌&&◌, and-true, not-not}
use mathlib.Core.List.{List, [], ◌∷◌, Memᴰ}
use Prim.Native.Nat.{ℕ, ◌+◌, ◌-◌, ◌<◌}
use Rattle.std.specs.Prelude.{Ok, None, Option}
use native.Mathlib.Omega.{arith}
use lib.Dec.{leb, eqb}
use lib.ListN.{length, replicate, get_or}
use Rattle.octets.specs.Text.{bytes}
use Rattle.octets.specs.Lists.{Bytes, part, every}
use Rattle.octets.specs.Search.{count, any, replace_all}
use Rattle.octets.proofs.Booleans.{and_left, and_right}
use Rattle.octets.proofs.Counting.{count_map, any-map, member-map}
use Rattle.encoding.specs.Hex.{read_handle}
use Rattle.form.specs.Content.{Value, missing, form_value, only_value}
use Rattle.client_registry.proofs.Clients.{redirect-most}
use Rattle.client_registry.specs.Registry.{Client, clients_of}
use Rattle.client_registry.specs.Lookup.{number_of, client_at}
use Rattle.token_store.specs.Layout.{slot_start, slot_size}
use Rattle.token_store.specs.Store.{Store, SlotsFit, is_live, free_slot, encode, decode, decode_slot, sought_key}
use Rattle.token_store.specs.declared.Slot.{Slot}
use Rattle.token_store.specs.declared.Sought.TheVariants.{Token as sought_token}
use Rattle.protocol.specs.declared.Reading.{Reading}
use Rattle.protocol.specs.Limits.{token_random}
use Rattle.protocol.specs.Answers.{is_grant, Decision}
use Rattle.protocol.specs.Refusals.{Reason, first_of}
use Rattle.protocol.specs.Requests.{fits, scope_asked, unless_refused}
use Rattle.protocol.specs.Authorization.{query_client, is_invalid_scope, location, code_parameter, location_text}
use Rattle.protocol.specs.ClientForms.{call_client, form_reasons}
use Rattle.protocol.specs.Token.{challenge_answered, credentials_reasons, read_credentials, read_token, token_reply, refresh_member}
use Rattle.protocol.specs.Revocation.{revocation_names, read_revocation, revocation_reply}
use Rattle.protocol.specs.Granting.{Plan, shown_slot, first_handle, second_handle, revoked_slots, exchange_plan, refresh_plan, credentials_plan, revocation_plan, plan_for, plan_of, decision_on, slots_by, slots_after, is_issued_on, without_issued_on}
use Rattle.protocol.specs.Outcomes.{Handed, reply_text, without_random, serve_check}
use Rattle.history.specs.Calls.{Call, authorization, token, revocation, check, handed_to, AllWellTyped, Result}
use Rattle.history.specs.Server.{outcome_of, is_passed, named_in, named_by, result_of, ours}
use Rattle.history.specs.Contents.{Sort, no_issue, code, access, refresh, Issue, is_a, is_live_at, is_token as is_token_issue, is_of, origin_of, value_of, is_exchange, is_refresh, is_credentials, is_within_granted, asked_or, caller, is_admitted_to_revoke, is_second_showing, code_shown, first_twenty, last_twenty, twenties, NeverTwice}
use Rattle.history.specs.Slots.{slots_in_all, holds_token_from}
use Rattle.history.specs.Claim.{is_exchangeable, may_exchange, is_refreshable, may_refresh, may_have_own, may_revoke, is_cleared, may_pass, has_room_for, Answers, store, contained, standing, time_at, next, Judged, Asks, Demand3, CredentialsYield, Revokes}
use Rattle.protocol.proofs.Reasons.{grant-every}
use Rattle.history.proofs.HeldIssues.{Held, none_held, sought, as_slot, as_issue, issue-live, issue-key, token-key, issue-exchanged}
use Rattle.history.proofs.Invariant.{Invariant, invariant-later, origin}
use Rattle.history.proofs.Readings.{second-last, within-granted, given-asked}
use Rattle.history.proofs.OneRequest.{exchange-has, refresh-has, exchange-none, refresh-none, is_exchangeable_held, is_refreshable_held, has_room_held, exchange-answer, refresh-answer, credentials-answer, check-passes, check-names}
use Rattle.history.proofs.SoundStores.{slots_same, slots-freed, slot-read-back}
use Rattle.history.proofs.AnyCall.{outcome_on, asked, unfit_to, is_past, seen-past, past-buffers, past-registry, fit-size, plan_on, store-on, granted-on, refused-left}
use Rattle.history.proofs.Written.{text_on, written_on}
use Rattle.history.proofs.Asking.{caller-is, exchange_asked, refresh_asked, credentials_asked, exchange_reading, refresh_reading, credentials_reading, revocation_reading, unless_missing, unless-missing, exchange-read, refresh-read, credentials-read}
use Rattle.history.proofs.Revoked.{goes_with_slot, goes-bytes, any-revocable, revoked-is, revocation-answer, revoked-held}
use Rattle.history.proofs.SecondShowing.{is_again, denied-is, again-second}
use Rattle.history.proofs.Shown.{is-grant, unless-granted, unless-grants, origin-shown}
use Rattle.history.proofs.AllCalls.{store_with, Kept, kept_read, kept-all, never-tail}

module _ (registry : List ℕ) (small : Bytes registry) (cs : List Call) (typed : AllWellTyped cs) where
  abbrev clients : List Client
  clients = clients_of registry

  kept : Kept clients (store ours registry cs) (contained ours registry cs)
  kept = kept-all registry small cs typed

  -- the slots, the things issued and the store that the calls left
  abbrev slots : List Slot
  slots = kept.slots

  abbrev held : List Held
  held = kept.held

  abbrev left : Store
  left = store_with (contained ours registry cs) slots

  -- ---- a call that is judged

  on-record : (c : Call) → outcome_of registry (store ours registry cs) c ≡ outcome_on clients (decode (store ours registry cs)) c
      → outcome_of registry (store ours registry cs) c ≡ outcome_on clients left c
  on-record c e = e ∙ ap (λ (g : Store). outcome_on clients g c) (kept_read kept)

  module _ (c : Call) (judged : Judged ours registry cs c) where
    past : is_past registry (store ours registry cs) c ≡ true
    past = (seen-past registry (store ours registry cs) c judged.fit).0

    served : outcome_of registry (store ours registry cs) c ≡ outcome_on clients left c
    served = on-record c (seen-past registry (store ours registry cs) c judged.fit).1

    result-is : next ours registry cs c ≡ result_of (outcome_on clients left c)
    result-is = ap result_of served

    granted-is : (next ours registry cs c).granted ≡ is_grant (decision_on (plan_on clients left c))
    granted-is = ap (λ (r : Result). r.granted) result-is ∙ granted-on clients left c

    once-seen : NeverTwice (contained ours registry cs).randoms
    once-seen = never-tail (twenties c) (contained ours registry cs).randoms judged.once

    answers-is : Answers (handed_to c) (next ours registry cs c) (text_on clients left c)
    answers-is =
        let short = redirect-most registry (past-registry registry (store ours registry cs) c past) in
        let w = written_on clients short left c (past-buffers registry (store ours registry cs) c past) in
        rw result-is (record { ends = w.long; written = w.put })

  invariant-at : (clock : ℕ) → NeverTwice (contained ours registry cs).randoms
      → Invariant (time_at ours registry cs clock) slots held (contained ours registry cs).randoms
  invariant-at clock once = invariant-later (kept.inv once) (time_at ours registry cs clock) (omega arith)

  -- tests of the issues that stand, as tests of what is held
  any_held : (p : Issue → Bool) (q : Held → Bool) → ((e : Held) → p (as_issue clients e) ≡ q e) → any p (standing ours registry cs) ≡ any q held
  any_held p q agree =
      ap (λ (l : List Issue). any p l) kept.issues
      ∙ any-map (as_issue clients) p held
      ∙ ap (λ (r : Held → Bool). any r held) (fun_ext agree)

  count_held : (p : Issue → Bool) (q : Held → Bool) → ((e : Held) → p (as_issue clients e) ≡ q e)
      → count p (standing ours registry cs) ≡ count q held
  count_held p q agree =
      ap (λ (l : List Issue). count p l) kept.issues
      ∙ count_map (as_issue clients) p held
      ∙ ap (λ (r : Held → Bool). count r held) (fun_ext agree)

  -- ---- the bytes of a slot

  abbrev slot_at : ℕ → List ℕ
  slot_at i = part (store ours registry cs) (slot_start i) slot_size

  -- where the slots that pass k are freed, those that pass k by their bytes are zero, and no other changes
  freed-slot : (k : Slot → Bool) (time i : ℕ) → i < slots_in_all
      → part (encode (record { time = time; slots = replace_all free_slot k slots })) (slot_start i) slot_size
      ≡ cond (k (decode_slot (slot_at i))) (replicate slot_size 0) (slot_at i)
  freed-slot k time i below =
      let fits : SlotsFit slots = λ n. (kept.sound.slots n).fits in
      let bytes-are : slot_at i ≡ part (encode left) (slot_start i) slot_size = ap (λ (b : List ℕ). part b (slot_start i) slot_size) kept.bytes in
      let read : decode_slot (slot_at i) ≡ get_or slots i free_slot = ap decode_slot bytes-are ∙ slot-read-back left kept.sound.size fits i below in
      slots-freed left kept.sound.size fits k time i below
      ∙ ap₂ (λ (b : Bool) (l : List ℕ). cond b (replicate slot_size 0) l) (ap k (sym read)) (sym bytes-are)

  -- ---- the token endpoint

  module _ (header body : List ℕ) (handed : Handed) (a : Asks ours registry cs header body handed) where
    abbrev random : List ℕ
    random = handed.random

    abbrev t : ℕ
    t = time_at ours registry cs handed.clock

    abbrev asks : Call
    asks = token header body handed

    size : length random ≡ token_random
    unfolding unfit_to
    size = fit-size token_random handed (past-buffers registry (store ours registry cs) asks (past asks a.judged))

    once : NeverTwice (contained ours registry cs).randoms
    once = once-seen asks a.judged

    invariant : Invariant t slots held (contained ours registry cs).randoms
    invariant = invariant-at handed.clock once

    new : NeverTwice (first_handle random ∷ second_handle random ∷ (contained ours registry cs).randoms)
    unfolding twenties
    new = rw (second-last random size) a.judged.once

    abbrev plan : Reading → Plan
    plan reading = plan_of t slots random reading

    granted-as : {reading : Reading} → read_token clients header body ≡ reading → (next ours registry cs asks).granted ≡ is_grant (decision_on (plan reading))
    unfolding asked handed_to
    granted-as read = granted-is asks a.judged ∙ ap (λ (r : Reading). is_grant (decision_on (plan r))) read

    -- a reading that is refused where what it presents is missing, and without that would not be granted either
    presented-granted : (v : Value) (reading : Reading) → read_token clients header body ≡ unless_missing v reading
        → (v ≡ missing → is_grant (decision_on (plan reading)) ≡ false) → (next ours registry cs asks).granted ≡ is_grant (decision_on (plan reading))
    presented-granted v reading read none = granted-as read ∙ unless-grants t slots random _ reading ∙ unless-missing v _ none

    -- what a reading that is granted was read as
    read-granted : (d : Decision) (reading : Reading) → read_token clients header body ≡ unless_refused d reading → (next ours registry cs asks).granted ≡ true
        → read_token clients header body ≡ reading
    unfolding unless_refused
    read-granted d reading read e =
        read ∙ ap (λ (x : Decision). unless_refused x reading) (unless-granted t slots random d reading (sym (granted-as read) ∙ e))

    -- what is written for a reading that is granted
    reply-as : {reading : Reading} → read_token clients header body ≡ reading → is_grant (decision_on (plan reading)) ≡ true
        → Answers handed (next ours registry cs asks) (reply_text random (plan reading) (Ok tt))
    unfolding asked handed_to text_on
    reply-as {reading} read granted =
        rw (sym (ap (λ (d : Decision). reply_text random (plan reading) d) (is-grant (decision_on (plan reading)) granted)))
        (rw read at (answers-is asks a.judged))

    -- the scope of what is presented, where it is live
    scope-held : (sort : Sort) (text : List ℕ) → is_live t (shown_slot (sought sort) (read_handle text) slots) ≡ true
        → (shown_slot (sought sort) (read_handle text) slots).scope ≡ (origin_of sort text (standing ours registry cs)).scope
    unfolding no_issue none_held
    scope-held sort text live =
        ap (λ (s : Slot). s.scope) (sym (origin invariant once (sought sort) (read_handle text) live))
        ∙ sym (origin-shown clients held (λ e. e.scope) sort text refl)
        ∙ ap (λ (l : List Issue). (origin_of sort text l).scope) (sym kept.issues)

    room-held : (needed : ℕ) → has_room_held needed t held ≡ has_room_for needed t (standing ours registry cs)
    room-held needed = ap (λ (n : ℕ). leb (n + needed) slots_in_all) (sym (count_held _ _ (issue-live clients t)))

    -- ---- an exchange

    module _ (is : is_exchange body ≡ true) where
      abbrev presented_code : List ℕ
      presented_code = value_of body (bytes "code")

      abbrev answered : Option (List ℕ)
      answered = challenge_answered (form_value body (bytes "code_verifier"))

      read-exchange : read_token clients header body ≡ unless_missing (form_value body (bytes "code")) (exchange_reading clients header body)
      read-exchange = exchange-read clients header body a.admitted is

      exchange-granted : (next ours registry cs asks).granted ≡ is_grant (decision_on (plan (exchange_reading clients header body)))
      unfolding only_value
      exchange-granted =
          presented-granted (form_value body (bytes "code")) _ read-exchange
          (λ e. rw e (exchange-none t slots random answered (exchange_asked clients header body)))

      exchangeable : (e : Held) → is_exchangeable clients t (standing ours registry cs) header body (as_issue clients e)
          ≡ is_exchangeable_held t (read_handle presented_code) answered (exchange_asked clients header body) e
      exchangeable e =
          rw (caller-is clients header body)
          (ap₂ ◌&&◌ (issue-live clients t e)
          (issue-exchanged clients presented_code (call_client clients header body) (form_value body (bytes "redirect_uri"))
          (form_value body (bytes "code_verifier")) e))

      exchange-claim : (next ours registry cs asks).granted ≡ may_exchange clients t (standing ours registry cs) header body
      unfolding may_exchange
      exchange-claim =
          exchange-granted
          ∙ exchange-answer invariant once (read_handle presented_code) random new answered (exchange_asked clients header body)
          ∙ ap₂ ◌&&◌ (sym (any_held _ _ exchangeable)) (room-held 2)

      exchange-reply : (next ours registry cs asks).granted ≡ true
          → let scope = (origin_of code presented_code (standing ours registry cs)).scope in
          Answers handed (next ours registry cs asks) (token_reply (first_twenty random) (refresh_member (last_twenty random)) scope)
      unfolding reply_text plan_for exchange_plan
      exchange-reply e =
          let granted = sym exchange-granted ∙ e in
          let live = (exchange-has t slots random (read_handle presented_code) answered (exchange_asked clients header body) granted).0 in
          rw (← (second-last random size), ← (scope-held code presented_code live)) (reply-as (read-granted _ _ read-exchange e) granted)

    -- ---- a refresh

    module _ (is : is_refresh body ≡ true) where
      abbrev token_shown : List ℕ
      token_shown = value_of body (bytes "refresh_token")

      abbrev scope : Value
      scope = form_value body (bytes "scope")

      read-refresh : read_token clients header body ≡ unless_missing (form_value body (bytes "refresh_token")) (refresh_reading clients header body)
      read-refresh = refresh-read clients header body a.admitted is

      refresh-granted : (next ours registry cs asks).granted ≡ is_grant (decision_on (plan (refresh_reading clients header body)))
      unfolding only_value
      refresh-granted =
          presented-granted (form_value body (bytes "refresh_token")) _ read-refresh
          (λ e. rw e (refresh-none t slots random None (refresh_asked clients header body)))

      refreshable : (e : Held) → is_refreshable clients t (standing ours registry cs) header body (as_issue clients e)
          ≡ is_refreshable_held t (read_handle token_shown) (refresh_asked clients header body) e
      refreshable e =
          rw (caller-is clients header body, ← (within-granted scope e.scope))
          (ap₂ ◌&&◌ (issue-live clients t e) (ap (λ (b : Bool). b && (eqb e.client (call_client clients header body) && fits (scope_asked scope) e.scope))
          (issue-key clients refresh token_shown e)))

      refresh-claim : (next ours registry cs asks).granted ≡ may_refresh clients t (standing ours registry cs) header body
      unfolding may_refresh
      refresh-claim =
          refresh-granted
          ∙ refresh-answer invariant once (read_handle token_shown) random new None (refresh_asked clients header body)
          ∙ ap₂ ◌&&◌ (sym (any_held _ _ refreshable)) (room-held 1)

      refresh-reply : (next ours registry cs asks).granted ≡ true
          → let granted = (origin_of refresh token_shown (standing ours registry cs)).scope in
          Answers handed (next ours registry cs asks) (token_reply (first_twenty random) [] (asked_or scope granted))
      unfolding reply_text plan_for refresh_plan
      refresh-reply e =
          let granted = sym refresh-granted ∙ e in
          let live = (refresh-has t slots random (read_handle token_shown) None (refresh_asked clients header body) granted).0 in
          rw (← (given-asked scope (origin_of refresh token_shown (standing ours registry cs)).scope), ← (scope-held refresh token_shown live))
          (reply-as (read-granted _ _ read-refresh e) granted)

    -- ---- a client for itself

    module _ (is : is_credentials body ≡ true) where
      abbrev client : Client
      client = client_at clients (call_client clients header body)

      read-credentials : read_token clients header body
          ≡ unless_refused (first_of (credentials_reasons client body)) (credentials_reading clients header body)
      unfolding read_credentials
      read-credentials = credentials-read clients header body a.admitted is

      unrefused-is : is_grant (first_of (credentials_reasons client body))
          ≡ (client.confidential && is_within_granted (form_value body (bytes "scope")) client.scope)
      unfolding is_invalid_scope every
      unrefused-is = grant-every (credentials_reasons client body) ∙ simp (not-not, and-true, within-granted)

      credentials-granted : (next ours registry cs asks).granted
          ≡ (client.confidential && is_within_granted (form_value body (bytes "scope")) client.scope && has_room_held 1 t held)
      credentials-granted =
          granted-as read-credentials ∙ unless-grants t slots random _ (credentials_reading clients header body)
          ∙ ap₂ ◌&&◌ unrefused-is (credentials-answer invariant once None random new None (credentials_asked clients header body))

      credentials-claim : (next ours registry cs asks).granted ≡ may_have_own clients t (standing ours registry cs) header body
      unfolding may_have_own
      credentials-claim = rw (caller-is clients header body, ← (room-held 1)) credentials-granted

      credentials-reply : (next ours registry cs asks).granted ≡ true
          → let scope = asked_or (form_value body (bytes "scope")) (client_at clients (caller clients header body)).scope in
          Answers handed (next ours registry cs asks) (token_reply (first_twenty random) [] scope)
      unfolding reply_text plan_for credentials_plan
      credentials-reply e =
          let read = read-granted _ _ read-credentials e in
          rw (caller-is clients header body, ← (given-asked (form_value body (bytes "scope")) client.scope))
          (reply-as read (sym (granted-as read) ∙ e))

  -- ---- a revocation

  module _ (header body : List ℕ) (clock : ℕ) (output : List ℕ) (judged : Judged ours registry cs (revocation header body clock output)) where
    abbrev revokes : Call
    revokes = revocation header body clock output

    abbrev then : ℕ
    then = time_at ours registry cs clock

    abbrev reading : Reading
    reading = revocation_reading clients header body

    abbrev reasons : List Reason
    reasons = form_reasons revocation_names (bytes "token") clients header body

    seen-once : NeverTwice (contained ours registry cs).randoms
    seen-once = once-seen revokes judged

    stays : Invariant then slots held (contained ours registry cs).randoms
    stays = invariant-at clock seen-once

    let-in : is_grant (first_of reasons) ≡ is_admitted_to_revoke clients header body
    unfolding form_reasons is_admitted_to_revoke every
    let-in = grant-every reasons ∙ simp and-true

    done-is : (next ours registry cs revokes).granted ≡ (is_admitted_to_revoke clients header body && is_grant (decision_on (plan_of then slots [] reading)))
    unfolding asked handed_to read_revocation
    done-is =
        granted-is revokes judged ∙ unless-grants then slots [] (first_of reasons) reading
        ∙ ap (λ (b : Bool). b && is_grant (decision_on (plan_of then slots [] reading))) let-in

    another : (e : Held) → let i = as_issue clients e in
        (is_live_at then i && (is_token_issue i && is_of (value_of body (bytes "token")) i && not (eqb i.client (caller clients header body))))
        ≡ (is_live then (as_slot e) && (sought_key sought_token reading.presented (as_slot e) && not (eqb e.client (call_client clients header body))))
    another e =
        rw (caller-is clients header body)
        (ap₂ ◌&&◌ (issue-live clients then e)
        (ap (λ (b : Bool). b && not (eqb e.client (call_client clients header body))) (token-key clients (value_of body (bytes "token")) e)))

    revocation-claim : (next ours registry cs revokes).granted
        ≡ (is_admitted_to_revoke clients header body && may_revoke clients then (standing ours registry cs) header body)
    unfolding may_revoke
    revocation-claim =
        done-is
        ∙ ap (λ (b : Bool). is_admitted_to_revoke clients header body && b)
        (revocation-answer stays seen-once reading.presented [] None _ ∙ ap not (sym (any_held _ _ another)))

    revocation-reply : (next ours registry cs revokes).granted ≡ true → Answers (without_random clock output) (next ours registry cs revokes) []
    unfolding text_on handed_to revocation_reply
    revocation-reply e = rw (is-grant (decision_on (plan_on clients left revokes)) (sym (granted-is revokes judged) ∙ e)) at (answers-is revokes judged)

    module _ (granted : (next ours registry cs revokes).granted ≡ true) where
      -- what is done is what the reading's plan says
      read_as : read_revocation clients header body ≡ reading
      unfolding read_revocation unless_refused
      read_as =
          let let-in-now = let-in ∙ and_left (is_admitted_to_revoke clients header body) _ (sym done-is ∙ granted) in
          ap (λ (d : Decision). unless_refused d reading) (is-grant (first_of reasons) let-in-now)

      plan-granted : is_grant (decision_on (plan_of then slots [] reading)) ≡ true
      plan-granted = and_right (is_admitted_to_revoke clients header body) _ (sym done-is ∙ granted)

      slots-left : slots_after (plan_on clients left revokes) ≡ revoked_slots then reading.presented slots
      unfolding asked handed_to slots_by plan_for revocation_plan
      slots-left = rw read_as (ap (λ (d : Decision). slots_by d (plan_of then slots [] reading)) (is-grant (decision_on (plan_of then slots [] reading)) plan-granted))

      -- a slot's bytes tell whether it goes
      cleared-is : (slot : List ℕ) → let token = shown_slot sought_token reading.presented slots in
          is_cleared clients then (standing ours registry cs) header body slot ≡ (is_live then token && goes_with_slot token (decode_slot slot))
      cleared-is slot =
          ap (λ (l : List Issue). is_cleared clients then l header body slot) kept.issues
          ∙ any-revocable clients then header body held _ (λ x. goes_with_slot x (decode_slot slot)) (λ x. goes-bytes clients x slot)
          ∙ revoked-held stays seen-once reading.presented [] None _ plan-granted (decode_slot slot)

      cleared-slot : (i : ℕ) → i < slots_in_all
          → part (next ours registry cs revokes).store (slot_start i) slot_size
          ≡ cond (is_cleared clients then (standing ours registry cs) header body (slot_at i)) (replicate 67 0) (slot_at i)
      unfolding handed_to
      cleared-slot i below =
          let token = shown_slot sought_token reading.presented slots in
          ap (λ (r : Result). part r.store (slot_start i) slot_size) (result-is revokes judged)
          ∙ ap (λ (b : List ℕ). part b (slot_start i) slot_size) (store-on clients left revokes)
          ∙ ap (λ (l : List Slot). part (encode (record { time = then; slots = l })) (slot_start i) slot_size)
          (slots-left ∙ revoked-is stays seen-once reading.presented)
          ∙ freed-slot (λ s. is_live then token && goes_with_slot token s) then i below
          ∙ ap (λ (b : Bool). cond b (replicate slot_size 0) (slot_at i)) (sym (cleared-is (slot_at i)))

  -- ---- the check

  module _ (presented : List ℕ) (clock : ℕ) (judged : Judged ours registry cs (check presented clock)) where
    abbrev now : ℕ
    now = time_at ours registry cs clock

    checked : next ours registry cs (check presented clock) ≡ result_of (outcome_on clients left (check presented clock))
    checked = result-is (check presented clock) judged

    still : Invariant now slots held (contained ours registry cs).randoms
    still = invariant-at clock (once-seen (check presented clock) judged)

    check-claim : (next ours registry cs (check presented clock)).passed ≡ may_pass now (standing ours registry cs) presented
    unfolding outcome_on serve_check is_passed may_pass
    check-claim =
        ap (λ (r : Result). r.passed) checked
        ∙ check-passes still (once-seen (check presented clock) judged) (read_handle presented)
        ∙ sym (any_held _ _ (λ e. ap₂ ◌&&◌ (issue-live clients now e) (issue-key clients access presented e)))

    check-named : (e : Issue) → Memᴰ e (standing ours registry cs) → is_live_at now e ≡ true → (is_a access e && is_of presented e) ≡ true
        → (next ours registry cs (check presented clock)).named
        ≡ record { client = e.client; farm = e.farm; scope = e.scope; left = e.expiry - now }
    unfolding outcome_on serve_check named_in named_by
    check-named e m =
        member-map (as_issue clients) Named held
        (λ x i live here.
        let key = sym (issue-key clients access presented x) ∙ here in
        let names = check-names still (once-seen (check presented clock) judged) (read_handle presented) x i (sym (issue-live clients now x) ∙ live) key in
        ap (λ (r : Result). r.named) checked ∙ ap named_by names)
        e (subst (λ (l : List Issue). Memᴰ e l) kept.issues m)
      where
        Named : Issue → Type 0
        Named x =
            is_live_at now x ≡ true → (is_a access x && is_of presented x) ≡ true
            → (next ours registry cs (check presented clock)).named
            ≡ record { client = x.client; farm = x.farm; scope = x.scope; left = x.expiry - now }

  -- ---- the location

  module _ (query : List ℕ) (decision farm : ℕ) (handed : Handed) (judged : Judged ours registry cs (authorization query decision farm handed)) where
    code-located : (next ours registry cs (authorization query decision farm handed)).granted ≡ true
        → let redirect = (client_at clients (number_of (value_of query (bytes "client_id")) clients)).redirect in
        let parameter = code_parameter (first_twenty handed.random) in
        Answers handed (next ours registry cs (authorization query decision farm handed)) (location redirect parameter (form_value query (bytes "state")))
    unfolding text_on location_text query_client handed_to
    code-located e =
        let authorizes = authorization query decision farm handed in
        let granted = sym (granted-is authorizes judged) ∙ e in
        rw (is-grant (decision_on (plan_on clients left authorizes)) granted) at (answers-is authorizes judged)

  -- ---- a refused try

  module _ (c : Call) (judged : Judged ours registry cs c) where
    abbrev at : ℕ
    at = time_at ours registry cs (handed_to c).clock

    abbrev again : Bool
    again = is_again clients at slots c

    second_is : is_second_showing clients at (standing ours registry cs) c ≡ again
    second_is =
        ap (λ (l : List Issue). is_second_showing clients at l c) kept.issues
        ∙ again-second clients at slots (invariant-at (handed_to c).clock (once-seen c judged)) (once-seen c judged) c

    module _ (i : ℕ) (below : i < slots_in_all) where
      abbrev slot : List ℕ
      slot = slot_at i

      abbrev Left : Bool → Type 0
      Left b =
          part (encode (record { time = at; slots = cond b (without_issued_on (read_handle (code_shown c)) slots) slots })) (slot_start i) slot_size
          ≡ cond (b && holds_token_from (code_shown c) slot) (replicate 67 0) slot

      -- a second showing frees the tokens that came from the code, and nothing else
      left_by : (b : Bool) → Left b
      left_by true = freed-slot (is_issued_on (read_handle (code_shown c))) at i below
      left_by false =
          slots_same (record { time = at; slots = slots }) left refl i ∙ sym (ap (λ (b : List ℕ). part b (slot_start i) slot_size) kept.bytes)

      refused-slot : (next ours registry cs c).granted ≡ false
          → part (next ours registry cs c).store (slot_start i) slot_size
          ≡ cond (is_second_showing clients at (standing ours registry cs) c && holds_token_from (code_shown c) slot) (replicate 67 0) slot
      refused-slot none =
          ap (λ (r : Result). part r.store (slot_start i) slot_size) (result-is c judged)
          ∙ ap (λ (b : List ℕ). part b (slot_start i) slot_size) (store-on clients left c)
          ∙ ap (λ (l : List Slot). part (encode (record { time = at; slots = l })) (slot_start i) slot_size)
          (refused-left clients left c (sym (ap (λ (r : Result). r.granted) (result-is c judged)) ∙ none) ∙ denied-is clients at slots (handed_to c).random c)
          ∙ left_by again
          ∙ ap (λ (b : Bool). cond (b && holds_token_from (code_shown c) slot) (replicate 67 0) slot) (sym second_is)

-- For every registry of bytes, fit or not, and every list of calls whose random bytes are bytes and whose farm numbers have 32 bits. That
-- no twenty random bytes come twice is asked where a call is judged (`Judged`).
pub demand3 : (registry : List ℕ) → Bytes registry → (cs : List Call) → AllWellTyped cs → Demand3 ours registry cs
demand3 registry small cs typed = record {
  exchanges = exchange-claim registry small cs typed;
  refreshes = refresh-claim registry small cs typed;
  passes = check-claim registry small cs typed;
  names = check-named registry small cs typed;
  exchange_replies = exchange-reply registry small cs typed;
  refresh_replies = refresh-reply registry small cs typed;
  credentials_replies = credentials-reply registry small cs typed;
  locates = code-located registry small cs typed;
  spends_nothing = λ c judged none i below. refused-slot registry small cs typed c judged i below none;
}

-- And beyond it: when a client that asks for itself is served.
pub credentials-yield : (registry : List ℕ) → Bytes registry → (cs : List Call) → AllWellTyped cs → CredentialsYield ours registry cs
credentials-yield registry small cs typed = record { yields = credentials-claim registry small cs typed }

-- When a revocation is done, what it answers and what it clears.
pub revocations : (registry : List ℕ) → Bytes registry → (cs : List Call) → AllWellTyped cs → Revokes ours registry cs
revocations registry small cs typed = record {
  done = revocation-claim registry small cs typed;
  replies = revocation-reply registry small cs typed;
  clears = cleared-slot registry small cs typed;
}
