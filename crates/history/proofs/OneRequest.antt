-- One request at the store: what it has if it is granted, that it keeps the invariant (`request-kept`), and that it is granted, and a
-- check passes, exactly when something live stands that answers it, and there is room (`exchange-answer`, `refresh-answer`,
-- `credentials-answer`, `check-passes`).
--
-- In order: which reasons did not apply; what is issued, spent and withdrawn; each request that is granted, and that is refused; any
-- request; room; no handle that comes once is in use; an exchange, a refresh and a check.
--
-- `slots` are the store's at the time t, `standing` what stands by the calls, `seen` the random bytes that came with them.
-- Assumes nothing.
use mathlib.Core.Path.{◌≡◌, refl, sym, ap, ap₂, ◌∙◌, subst}
use mathlib.Core.Bool.{Bool, true, false, cond, ◌&&◌, false≢true, not, ◌||◌, and_assoc, and-true, or-true, not-not}
use mathlib.Core.List.{List, [], ◌∷◌, ◌++◌, map, Memᴰ}
use Prim.Native.Nat.{ℕ, ◌≤◌, ◌+◌, ◌-◌}
use Rattle.std.specs.Prelude.{Ok, Err, Option, is_some}
use native.Mathlib.Omega.{arith}
use borrow.Author.Tests.{leb-true, not-false, leb-false, le-leb, lt-leb}
use lib.Dec.{leb, eqb, lit<}
use Rattle.octets.specs.Lists.{same, every}
use Rattle.octets.proofs.Booleans.{and_left}
use Rattle.octets.proofs.Lists.{same_refl}
use Rattle.encoding.specs.Hex.{read_handle, is_handle_text}
use Rattle.octets.specs.Search.{count, bit, any, keep}
use Rattle.token_store.specs.Store.{kind_access, kind_refresh, code_kind, lifetime_of, origin_of, issue, is_live, is_bound_code, is_token, is_sought, holds, shows, sought_key}
use Rattle.token_store.specs.declared.Slot.{Slot}
use Rattle.token_store.specs.declared.Sought.TheVariants.{Code as sought_code, Spent as sought_spent, Refresh as sought_refresh, Access as sought_access}
use Rattle.token_store.specs.Layout.{slot_count}
use Rattle.token_store.proofs.Slots.{free-dead}
use Rattle.protocol.specs.declared.Refusal.{Refusal}
use Rattle.protocol.specs.declared.CodeRequest.{CodeRequest}
use Rattle.protocol.specs.declared.ExchangeRequest.{ExchangeRequest}
use Rattle.protocol.specs.declared.RefreshRequest.{RefreshRequest}
use Rattle.protocol.specs.declared.CredentialsRequest.{CredentialsRequest}
use Rattle.protocol.specs.declared.Request.{Request}
use Rattle.protocol.specs.declared.Request.TheVariants.{Refused, Code, Exchange, Refresh, Credentials, Revocation}
use Rattle.protocol.specs.declared.CheckAnswer.TheVariants.{NotLive, Live}
use Rattle.protocol.specs.Answers.{is_grant, Decision}
use Rattle.protocol.specs.Refusals.{Reason, when, first_of as first_reason}
use Rattle.protocol.specs.Requests.{scope_given, fits}
use Rattle.protocol.specs.Granting.{Plan, first_handle, second_handle, shown_slot, with_spent, room, token_on, new_code, refused_plan, exchange_plan, refresh_plan, credentials_plan, plan_for, decision_on, slots_by, slots_after, is_taken, any_taken, is_unverified, live_token, check_slots, is_issued_on, without_issued_on}
use Rattle.protocol.proofs.Computing.{plan_definitions}
use Rattle.protocol.proofs.Reasons.{grant-every, unrefused}
use Rattle.history.specs.Contents.{Sort, code, access, refresh, lifetime, NeverTwice}
use Rattle.history.specs.Server.{is_live_check}
use Rattle.octets.proofs.Counting.{bit_le, count-append, bit-none, any-count}
use Rattle.history.proofs.Challenges.{FitChallenge, digest_of, no_digest, link_of}
use Rattle.history.proofs.HeldIssues.{Handle, Held, as_slot, token-origin}
use Rattle.history.proofs.Invariant.{none-shown, shown-key, origin_held, spend_held, Invariant, invariant-seen, invariant-issue, invariant-withdraw, room-left, room-spent, origin, contained, found, spent-kept, shown-again}
use Rattle.history.proofs.Revoked.{is_revoked_held, revoked-kept}
use Rattle.history.proofs.Readings.{only_of, first_of, second_of, Brings}

-- ---- what is granted

-- where nothing is presented there is nothing to grant
module _ (t : ℕ) (slots : List Slot) (random : List ℕ) (d : Option (List ℕ)) where
  pub exchange-none : (r : ExchangeRequest) → is_grant (decision_on (plan_for t slots random (read_handle []) d (Exchange r))) ≡ false
  unfolding plan_for exchange_plan first_reason is_grant read_handle is_handle_text
  exchange-none r = rw (none-shown sought_code slots, free-dead t)

  pub refresh-none : (r : RefreshRequest) → is_grant (decision_on (plan_for t slots random (read_handle []) d (Refresh r))) ≡ false
  unfolding plan_for refresh_plan first_reason is_grant read_handle is_handle_text
  refresh-none r = rw (none-shown sought_refresh slots, free-dead t)

module _ (t : ℕ) (slots : List Slot) (random : List ℕ) (p d : Option (List ℕ)) where
  abbrev pub Granted : Request → Type 0
  Granted request = is_grant (decision_on (plan_for t slots random p d request)) ≡ true

  own-live : (client : ℕ) (s : Slot) → (is_live t s && eqb s.client client) ≡ true → is_live t s ≡ true
  own-live client s = and_left (is_live t s) (eqb s.client client)

  -- a first reason that asks for one slot
  one-slot : (x : Refusal) (rs : List Reason) → is_grant (first_reason (when (not (leb 1 (room t slots))) x ∷ rs)) ≡ true → 1 ≤ room t slots
  one-slot x rs e = leb-true 1 (room t slots) (not-false _ (unrefused (when (not (leb 1 (room t slots))) x ∷ rs) e 0 (omega arith)))

  -- what is presented is live, and there is room
  pub exchange-has : (r : ExchangeRequest) → Granted (Exchange r)
      → (is_live t (shown_slot sought_code p slots) ≡ true) × (2 ≤ room t slots)
  unfolding plan_for exchange_plan
  exchange-has r e =
      let no = unrefused (exchange_plan t slots random p d r).reasons e in (
        own-live r.client (shown_slot sought_code p slots) (not-false _ (no 0 (lit< tt))),
        leb-true 2 (room t slots) (not-false _ (no 3 (lit< tt))),
      )

  pub refresh-has : (r : RefreshRequest) → Granted (Refresh r) → (is_live t (shown_slot sought_refresh p slots) ≡ true) × (1 ≤ room t slots)
  unfolding plan_for refresh_plan
  refresh-has r e =
      let no = unrefused (refresh_plan t slots random p r).reasons e in (
        own-live r.client (shown_slot sought_refresh p slots) (not-false _ (no 0 (lit< tt))),
        leb-true 1 (room t slots) (not-false _ (no 2 (lit< tt))),
      )

-- ---- what is issued

abbrev pub code_held : ℕ → Handle → {d : Option (List ℕ)} → FitChallenge d → CodeRequest → Held
code_held t handle {d} f r = record {
  sort = code;
  bound = r.bound;
  challenged = is_some d;
  challenge = digest_of f;
  handle = handle;
  client = r.client;
  farm = r.farm;
  scope = r.scope;
  expiry = t + lifetime code;
  origin = handle;
}

-- a token of a sort, on the code or refresh token `shown`, from the code of the handle `origin`
abbrev pub token_held : Sort → ℕ → Handle → Held → Handle → ℕ → Held
token_held sort t handle shown origin scope = record {
  sort = sort;
  bound = false;
  challenged = false;
  challenge = no_digest;
  handle = handle;
  client = shown.client;
  farm = shown.farm;
  scope = scope;
  expiry = t + lifetime sort;
  origin = origin;
}

-- a client's, for itself
abbrev pub client_held : ℕ → Handle → CredentialsRequest → Held
client_held t handle r = record {
  sort = access;
  bound = false;
  challenged = false;
  challenge = no_digest;
  handle = handle;
  client = r.client;
  farm = 0;
  scope = r.scope;
  expiry = t + lifetime access;
  origin = handle;
}

module _ (t : ℕ) (standing : List Held) (clients : ℕ) (random : List ℕ) (twenties : List (List ℕ)) (p d : Option (List ℕ)) where
  -- what a request that is granted issues
  unfoldable pub issued_held : (request : Request) → Brings clients random twenties d request → List Held
  unfolding Brings
  issued_held (Refused r) q = []
  issued_held (Code r) q = code_held t (only_of q.0) q.2 r ∷ []
  issued_held (Exchange r) q =
      let o = origin_held sought_code p standing in
      token_held refresh t (second_of q) o o.handle o.scope ∷ token_held access t (first_of q) o o.handle o.scope ∷ []
  issued_held (Refresh r) q =
      let o = origin_held sought_refresh p standing in token_held access t (first_of q.0) o o.origin (scope_given r.scope o.scope) ∷ []
  issued_held (Credentials r) q = client_held t (first_of q.0) r ∷ []
  issued_held (Revocation r) q = []

  -- and what it leaves of what stood
  unfoldable pub kept_held : Request → List Held
  kept_held (Refused r) = standing
  kept_held (Code r) = standing
  kept_held (Exchange r) = map (spend_held p) standing
  kept_held (Refresh r) = standing
  kept_held (Credentials r) = standing
  kept_held (Revocation r) = keep (λ e. not (is_revoked_held t p r.client standing (as_slot e))) standing

  -- what stands after it
  abbrev pub held_after : (request : Request) → Brings clients random twenties d request → List Held
  held_after request q = issued_held request q ++ kept_held request

-- a spent code of a client's that is live
abbrev pub is_shown_held : ℕ → Option (List ℕ) → ExchangeRequest → Held → Bool
is_shown_held t p r e = is_live t (as_slot e) && (sought_key sought_spent p (as_slot e) && eqb e.client r.client)

-- what stands after a request that is refused
unfoldable pub held_after_refusal : ℕ → List Held → Option (List ℕ) → Request → List Held
held_after_refusal t standing p (Refused r) = standing
held_after_refusal t standing p (Code r) = standing
held_after_refusal t standing p (Exchange r) =
    cond (any (is_shown_held t p r) standing) (keep (λ e. not (is_issued_on p (as_slot e))) standing) standing
held_after_refusal t standing p (Refresh r) = standing
held_after_refusal t standing p (Credentials r) = standing
held_after_refusal t standing p (Revocation r) = standing

code-slot : (t : ℕ) (handle : Handle) (d : Option (List ℕ)) (f : FitChallenge d) (r : CodeRequest)
    → new_code t handle.octets d r ≡ as_slot (code_held t handle f r)
code-slot t handle d f r =
    λ i. record {
      kind = code_kind r.bound (is_some d);
      handle = handle.octets;
      client = r.client;
      farm = r.farm;
      scope = r.scope;
      expiry = t + by r.bound (is_some d) i;
      link = link_of d;
    }
  where
    by : (b c : Bool) → lifetime_of (code_kind b c) ≡ lifetime code
    by true true = refl
    by true false = refl
    by false true = refl
    by false false = refl

two-issues : {t : ℕ} {slots : List Slot} {standing : List Held} {seen : List (List ℕ)} (x y : Held)
    → Invariant t slots standing seen → 2 ≤ room t slots
    → Invariant t (issue t (as_slot y) (issue t (as_slot x) slots)) (y ∷ x ∷ standing) (x.handle.octets ∷ y.handle.octets ∷ seen)
unfolding count
two-issues {t} {seen = seen} x y v h =
    let w = invariant-issue v x (omega arith) in
    let both = invariant-issue w y (omega (arith, room-left v, room-left w, bit_le (is_live t (as_slot x)))) in
    invariant-seen both (x.handle.octets ∷ y.handle.octets ∷ seen) (λ k. omega arith)

-- ---- each request keeps the invariant

module _ {t : ℕ} {slots : List Slot} {standing : List Held} {seen : List (List ℕ)} (v : Invariant t slots standing seen) (once : NeverTwice seen)
    (clients : ℕ) (random : List ℕ) (twenties : List (List ℕ)) (p d : Option (List ℕ)) where
  abbrev plan : Request → Plan
  plan request = plan_for t slots random p d request

  more-seen : {left : List Slot} {stays : List Held} → Invariant t left stays seen → Invariant t left stays (twenties ++ seen)
  more-seen w = invariant-seen w (twenties ++ seen) (λ h. omega (arith, count-append (same h) twenties seen))

  granted-kept : (request : Request) (q : Brings clients random twenties d request) → Granted t slots random p d request
      → Invariant t (plan request).granted (held_after t standing clients random twenties p d request q) (twenties ++ seen)
  unfolding plan_definitions issued_held kept_held Brings count
  granted-kept (Refused r) q e = absurd (false≢true (sym (unrefused (refused_plan t slots random r).reasons e 0 (lit< tt))))
  granted-kept (Code r) q e =
      rw (q.0.handles, code-slot t (only_of q.0) d q.2 r)
      (invariant-issue v (code_held t (only_of q.0) q.2 r) (one-slot t slots random p d _ _ e))
  granted-kept (Exchange r) q e =
      let o = origin_held sought_code p standing in
      let has = exchange-has t slots random p d r e in
      let roomy : 2 ≤ room t (with_spent p slots) = omega (arith, room-spent v once p, has.1) in
      let on : Slot → ℕ → List ℕ → Slot = λ s kind handle. token_on s s.handle t kind handle s.scope in
      let both =
      two-issues (token_held access t (first_of q) o o.handle o.scope) (token_held refresh t (second_of q) o o.handle o.scope)
      (spent-kept v once p) roomy
      in
      rw q.handles
      (subst
      (λ (s : Slot). Invariant t
      (issue t (on s kind_refresh (second_handle random)) (issue t (on s kind_access (first_handle random)) (with_spent p slots)))
      (held_after t standing clients random twenties p d (Exchange r) q) (first_handle random ∷ second_handle random ∷ seen))
      (origin v once sought_code p has.0) both)
  granted-kept (Refresh r) q e =
      let o = origin_held sought_refresh p standing in
      let s = shown_slot sought_refresh p slots in
      let has = refresh-has t slots random p d r e in
      let same-slot = origin v once sought_refresh p has.0 in
      let sought = and_left (is_sought sought_refresh s) (shows p s) (shown-key t slots sought_refresh p has.0) in
      let token : is_token s ≡ true = ap (λ (b : Bool). eqb s.kind kind_access || b) sought ∙ or-true (eqb s.kind kind_access) in
      let origin-is = token-origin o (subst (λ (x : Slot). is_token x ≡ true) (sym same-slot) token) in
      let one = invariant-issue v (token_held access t (first_of q.0) o o.origin (scope_given r.scope o.scope)) has.1 in
      let Kept : Slot → List ℕ → Type 0 = λ x from.
      Invariant t (issue t (token_on x from t kind_access (first_handle random) (scope_given r.scope x.scope)) slots)
      (held_after t standing clients random twenties p d (Refresh r) q) (first_handle random ∷ second_handle random ∷ seen)
      in
      rw q.0.handles
      (subst (λ (x : Slot). Kept x (origin_of x)) same-slot
      (subst (Kept (as_slot o)) (sym origin-is) (invariant-seen one (first_handle random ∷ second_handle random ∷ seen) (λ k. omega arith))))
  granted-kept (Credentials r) q e =
      rw q.0.handles
      (invariant-seen (invariant-issue v (client_held t (first_of q.0) r) (one-slot t slots random p d _ _ e)) _ (λ k. omega arith))
  granted-kept (Revocation r) q e = more-seen (revoked-kept v once p random d r e)

  denied-kept : (request : Request) → Invariant t (plan request).denied (held_after_refusal t standing p request) seen
  unfolding plan_definitions held_after_refusal
  denied-kept (Refused r) = v
  denied-kept (Code r) = v
  denied-kept (Exchange r) = rw (shown-again v once p r.client) (by (any (is_shown_held t p r) standing))
    where
      by : (b : Bool)
          → Invariant t (cond b (without_issued_on p slots) slots)
          (cond b (keep (λ e. not (is_issued_on p (as_slot e))) standing) standing) seen
      by true = invariant-withdraw v (is_issued_on p)
      by false = v
  denied-kept (Refresh r) = v
  denied-kept (Credentials r) = v
  denied-kept (Revocation r) = v

  pub request-kept : (request : Request) (q : Brings clients random twenties d request)
      → Invariant t (slots_after (plan request))
      (cond (is_grant (decision_on (plan request))) (held_after t standing clients random twenties p d request q) (held_after_refusal t standing p request))
      (twenties ++ seen)
  unfolding slots_by is_grant
  request-kept request q = by (decision_on (plan request)) (granted-kept request q)
    where
      by : (made : Decision) → (is_grant made ≡ true → Invariant t (plan request).granted (held_after t standing clients random twenties p d request q) (twenties ++ seen))
          → Invariant t (slots_by made (plan request))
          (cond (is_grant made) (held_after t standing clients random twenties p d request q) (held_after_refusal t standing p request)) (twenties ++ seen)
      by (Ok tt) f = f refl
      by (Err r) f = more-seen (denied-kept request)

-- ---- room

-- room for k by the slots is room for k by the issues
leb-room : (k v u : ℕ) → v + u ≡ slot_count → leb k v ≡ leb (u + k) slot_count
leb-room k v u e = by (leb k v) refl
  where
    by : (b : Bool) → leb k v ≡ b → b ≡ leb (u + k) slot_count
    by true q = sym (le-leb (u + k) slot_count (omega (arith, leb-true k v q)))
    by false q = sym (lt-leb (u + k) slot_count (omega (arith, leb-false k v q)))

not-or : (a b : Bool) → not (a && not b) ≡ (not a || b)
not-or true b = not-not b
not-or false b = refl

-- four reasons, of which the last does not apply, as the claim's tests: live, of the client, and m; and room
four-tests : (l c m r : Bool) {n x : Bool} → n ≡ m → x ≡ false
    → (not (not (l && c)) && (n && (not (not r) && (not x && true)))) ≡ (l && (c && m) && r)
four-tests l c m r p q = rw (p, q) (simp (not-not, and-true, and_assoc))

-- what an exchange, and a refresh, needs of a thing issued
abbrev pub is_exchangeable_held : ℕ → Option (List ℕ) → Option (List ℕ) → ExchangeRequest → Held → Bool
is_exchangeable_held t p d r e =
    is_live t (as_slot e)
    && (sought_key sought_code p (as_slot e)
    && (eqb e.client r.client && (not (is_bound_code (as_slot e)) || r.again) && not (is_unverified d (as_slot e))))

abbrev pub is_refreshable_held : ℕ → Option (List ℕ) → RefreshRequest → Held → Bool
is_refreshable_held t p r e =
    is_live t (as_slot e) && (sought_key sought_refresh p (as_slot e) && (eqb e.client r.client && fits r.scope e.scope))

-- room for so many more
abbrev pub has_room_held : ℕ → ℕ → List Held → Bool
has_room_held needed t standing = leb (count (λ e. is_live t (as_slot e)) standing + needed) slot_count

module _ {t : ℕ} {slots : List Slot} {standing : List Held} {seen : List (List ℕ)} (v : Invariant t slots standing seen) (once : NeverTwice seen)
    (p : Option (List ℕ)) where
  room_for : (k : ℕ) → leb k (room t slots) ≡ has_room_held k t standing
  room_for k = leb-room k (room t slots) (count (λ e. is_live t (as_slot e)) standing) (room-left v)

  -- ---- no handle that comes once is in use

  unused : (h : List ℕ) → count (same h) seen ≤ 0 → is_taken h slots ≡ false
  unused h e = any-count (holds h) false slots (omega (arith, v.in_slots h))

  module _ (random : List ℕ) (new : NeverTwice (first_handle random ∷ second_handle random ∷ seen)) where
    first-unused : is_taken (first_handle random) slots ≡ false
    unfolding count
    first-unused = let a = first_handle random in unused a (omega (arith, new a, ap bit (same_refl a)))

    none-taken : any_taken (first_handle random) (second_handle random) slots ≡ false
    unfolding count
    none-taken =
        let a = first_handle random in
        let b = second_handle random in
        rw (first-unused, unused b (omega (arith, new b, ap bit (same_refl b))))
        (bit-none (same a b) (omega (arith, new a, ap bit (same_refl a))))

    -- ---- what each request is answered

    pub exchange-answer : (d : Option (List ℕ)) (r : ExchangeRequest) → is_grant (decision_on (plan_for t slots random p d (Exchange r)))
        ≡ (any (is_exchangeable_held t p d r) standing && has_room_held 2 t standing)
    unfolding plan_for exchange_plan every
    exchange-answer d r =
        grant-every (exchange_plan t slots random p d r).reasons
        ∙ ap (λ (b : Bool). not (not (is_live t s && mine s)) && b) (sym (and_assoc (not (is_bound_code s && not r.again)) (verified s) _))
        ∙ four-tests (is_live t s) (mine s) (repeats s && verified s) _
        (ap (λ (b : Bool). b && verified s) (not-or (is_bound_code s) r.again)) none-taken
        ∙ ap₂ ◌&&◌ (ap (λ (b : Bool). is_live t s && b) (sym (and_assoc (mine s) (repeats s) (verified s))) ∙ sym there) (room_for 2)
      where
        s : Slot
        s = shown_slot sought_code p slots

        mine : Slot → Bool
        mine x = eqb x.client r.client

        repeats : Slot → Bool
        repeats x = not (is_bound_code x) || r.again

        verified : Slot → Bool
        verified x = not (is_unverified d x)

        there : any (is_exchangeable_held t p d r) standing ≡ (is_live t s && (mine s && repeats s && verified s))
        there = contained v once sought_code p (λ x. mine x && repeats x && verified x)

    pub refresh-answer : (d : Option (List ℕ)) (r : RefreshRequest) → is_grant (decision_on (plan_for t slots random p d (Refresh r)))
        ≡ (any (is_refreshable_held t p r) standing && has_room_held 1 t standing)
    unfolding plan_for refresh_plan every
    refresh-answer d r =
        grant-every (refresh_plan t slots random p r).reasons
        ∙ four-tests (is_live t s) (eqb s.client r.client) (fits r.scope s.scope) _ (not-not _) first-unused
        ∙ ap₂ ◌&&◌ (sym there) (room_for 1)
      where
        s : Slot
        s = shown_slot sought_refresh p slots

        there : any (is_refreshable_held t p r) standing ≡ (is_live t s && (eqb s.client r.client && fits r.scope s.scope))
        there = contained v once sought_refresh p (λ x. eqb x.client r.client && fits r.scope x.scope)

    pub credentials-answer : (d : Option (List ℕ)) (r : CredentialsRequest) → is_grant (decision_on (plan_for t slots random p d (Credentials r)))
        ≡ has_room_held 1 t standing
    unfolding plan_for credentials_plan every
    credentials-answer d r =
        grant-every (credentials_plan t slots random r).reasons ∙ rw first-unused (simp (not-not, and-true)) ∙ room_for 1

  -- ---- the check

  pub check-passes : is_live_check (check_slots t slots p) ≡ any (λ e. is_live t (as_slot e) && sought_key sought_access p (as_slot e)) standing
  unfolding check_slots is_live_check
  check-passes = by (is_live t s) ∙ sym there
    where
      s : Slot
      s = shown_slot sought_access p slots

      by : (b : Bool) → is_live_check (cond b (Live (live_token t s)) NotLive) ≡ b
      by true = refl
      by false = refl

      there : any (λ e. is_live t (as_slot e) && sought_key sought_access p (as_slot e)) standing ≡ is_live t s
      there = simp and-true at (contained v once sought_access p (λ x. true))

  pub check-names : (e : Held) → Memᴰ e standing → is_live t (as_slot e) ≡ true → sought_key sought_access p (as_slot e) ≡ true
      → check_slots t slots p ≡ Live (record { client = e.client; farm = e.farm; scope = e.scope; left = e.expiry - t })
  unfolding check_slots
  check-names e m live here = rw (found v once sought_access p e m live here, live)
