-- A token that is revoked: what goes with it by the issues that stand is what goes with it by the slots (`goes-issue`, `goes-bytes`);
-- which slots a revocation frees (`revoked-is`), that the invariant is kept (`revoked-kept`), and when it is done
-- (`revocation-answer`).
--
-- In order: what goes with a token, by the slots; by the issues and by a slot's bytes; the slots that are freed; any revocation.
-- Assumes nothing.
use mathlib.Core.Path.{◌≡◌, refl, sym, ap, ap₂, ◌∙◌, fun_ext}
use mathlib.Core.Bool.{Bool, true, false, cond, not, ◌&&◌, ◌||◌, false≢true, and_assoc, and-true, or-false, or-true}
use mathlib.Core.List.{List, map, map-id, map-map}
use Prim.Native.Nat.{ℕ}
use Rattle.std.specs.Prelude.{Option, Some, None}
use lib.Dec.{eqb}
use Rattle.octets.specs.Text.{bytes}
use Rattle.octets.specs.Lists.{every, same}
use Rattle.octets.specs.Search.{any, keep, replace_first, replace_all}
use Rattle.octets.proofs.Booleans.{and_right}
use Rattle.octets.proofs.Lists.{same-eq}
use Rattle.octets.proofs.Counting.{any-map, replace_first-map}
use Rattle.octets.proofs.Searches.{replace_all-map}
use Rattle.encoding.specs.Hex.{hex_text, read_handle, presents}
use Rattle.encoding.proofs.Hex.{handle-round}
use Rattle.client_registry.specs.Registry.{Client}
use Rattle.token_store.specs.Store.{origin_of, free_slot, decode_slot, is_live, is_sought, shows, sought_key, comes_from}
use Rattle.token_store.specs.declared.Slot.{Slot}
use Rattle.token_store.specs.declared.Sought.TheVariants.{Access, Refresh, Token}
use Rattle.protocol.specs.declared.RevocationRequest.{RevocationRequest}
use Rattle.protocol.specs.declared.Request.TheVariants.{Revocation}
use Rattle.protocol.specs.Answers.{is_grant}
use Rattle.protocol.specs.ClientForms.{call_client}
use Rattle.protocol.specs.Granting.{shown_slot, without_shown, revoked_slots, revocation_plan, plan_for, decision_on}
use Rattle.protocol.proofs.Reasons.{grant-every}
use Rattle.history.specs.Contents.{access, refresh, Issue, is_a, is_token, is_of, value_of, is_revocable, goes_with, NeverTwice}
use Rattle.history.specs.Slots.{holds_access, holds_token, has_text, came_from}
use Rattle.history.proofs.HeldIssues.{Handle, Held, as_slot, as_issue, and-agree, token-origin, issue-live, issue-sort, token-key, access-from}
use Rattle.history.proofs.Invariant.{shown-key, Invariant, invariant-withdraw, one-slot, contained}
use Rattle.history.proofs.Asking.{caller-is}

-- ---- what goes with a token, by the slots

-- itself, and with a refresh token the access tokens of its origin
abbrev pub goes_with_slot : Slot → Slot → Bool
goes_with_slot x s = is_sought Token s && same x.handle s.handle || is_sought Refresh x && comes_from Access (origin_of x) s

-- a live token of a client that is shown, and more
abbrev pub is_revocable_held : ℕ → Option (List ℕ) → ℕ → (Slot → Bool) → Held → Bool
is_revocable_held t p client more x = is_live t (as_slot x) && (sought_key Token p (as_slot x) && (eqb x.client client && more (as_slot x)))

-- what goes with one that stands
abbrev pub is_revoked_held : ℕ → Option (List ℕ) → ℕ → List Held → Slot → Bool
is_revoked_held t p client standing s = any (is_revocable_held t p client (λ x. goes_with_slot x s)) standing

-- ---- by the issues, and by a slot's bytes

-- a handle's text presents it
shown-text : (h : Handle) → read_handle (hex_text h.octets) ≡ Some h.octets
shown-text h = handle-round h.octets h.size h.small

refresh-token : (s : Slot) → is_sought Refresh s ≡ true → is_sought Token s ≡ true
refresh-token s is = ap (λ (b : Bool). is_sought Access s || b) is ∙ or-true (is_sought Access s)

module _ (clients : List Client) where
  pub goes-issue : (x e : Held) → goes_with (as_issue clients x) (as_issue clients e) ≡ goes_with_slot (as_slot x) (as_slot e)
  goes-issue x e = ap₂ ◌||◌ itself (and-agree (issue-sort clients refresh x) others)
    where
      itself : (is_token (as_issue clients e) && is_of (as_issue clients x).text (as_issue clients e))
          ≡ (is_sought Token (as_slot e) && same (as_slot x).handle (as_slot e).handle)
      itself = token-key clients (as_issue clients x).text e ∙ ap (λ (p : Option (List ℕ)). sought_key Token p (as_slot e)) (shown-text x.handle)

      others : is_sought Refresh (as_slot x) ≡ true
          → (is_a access (as_issue clients e) && same (as_issue clients x).origin (as_issue clients e).origin)
          ≡ comes_from Access (origin_of (as_slot x)) (as_slot e)
      others is =
          access-from clients (as_issue clients x).origin e
          ∙ ap (λ (p : Option (List ℕ)). is_sought Access (as_slot e) && presents p (origin_of (as_slot e))) (shown-text x.origin)
          ∙ ap (λ (o : List ℕ). comes_from Access o (as_slot e)) (sym (token-origin x (refresh-token (as_slot x) is)))

  pub goes-bytes : (x : Held) (slot : List ℕ) → let i = as_issue clients x in
      (holds_token slot && has_text i.text slot || is_a refresh i && (holds_access slot && came_from i.origin slot))
      ≡ goes_with_slot (as_slot x) (decode_slot slot)
  goes-bytes x slot = ap₂ ◌||◌ itself (and-agree (issue-sort clients refresh x) others)
    where
      s : Slot
      s = decode_slot slot

      itself : (holds_token slot && has_text (as_issue clients x).text slot) ≡ (is_sought Token s && same (as_slot x).handle s.handle)
      itself = ap (λ (p : Option (List ℕ)). is_sought Token s && shows p s) (shown-text x.handle)

      others : is_sought Refresh (as_slot x) ≡ true
          → (holds_access slot && came_from (as_issue clients x).origin slot) ≡ comes_from Access (origin_of (as_slot x)) s
      others is =
          ap (λ (p : Option (List ℕ)). is_sought Access s && presents p (origin_of s)) (shown-text x.origin)
          ∙ ap (λ (o : List ℕ). comes_from Access o s) (sym (token-origin x (refresh-token (as_slot x) is)))

  shifted : (a b c d : Bool) → ((a && (b && c)) && d) ≡ (a && (b && (c && d)))
  shifted a b c d = and_assoc a (b && c) d ∙ ap (λ (e : Bool). a && e) (and_assoc b c d)

  module _ (t : ℕ) (header body : List ℕ) where
    abbrev presented : Option (List ℕ)
    presented = read_handle (value_of body (bytes "token"))

    -- a token that may be revoked, and more
    revocable : (x : Held) (more : Issue → Bool) (more_of : Slot → Bool) → more (as_issue clients x) ≡ more_of (as_slot x)
        → (is_revocable clients t header body (as_issue clients x) && more (as_issue clients x))
        ≡ is_revocable_held t presented (call_client clients header body) more_of x
    revocable x more more_of agree =
        rw (caller-is clients header body)
        (ap₂ ◌&&◌
        (ap₂ ◌&&◌ (issue-live clients t x)
        (ap (λ (b : Bool). b && eqb x.client (call_client clients header body)) (token-key clients (value_of body (bytes "token")) x)))
        agree
        ∙ shifted (is_live t (as_slot x)) (sought_key Token presented (as_slot x)) (eqb x.client (call_client clients header body)) (more_of (as_slot x)))

    pub any-revocable : (held : List Held) (more : Issue → Bool) (more_of : Slot → Bool) → ((x : Held) → more (as_issue clients x) ≡ more_of (as_slot x))
        → any (λ x. is_revocable clients t header body x && more x) (map (as_issue clients) held)
        ≡ any (is_revocable_held t presented (call_client clients header body) more_of) held
    any-revocable held more more_of agree =
        any-map (as_issue clients) _ held ∙ ap (λ (k : Held → Bool). any k held) (fun_ext (λ x. revocable x more more_of (agree x)))

-- ---- the slots that are freed

-- what is presented, if it is these bytes
presented-is : (p : Option (List ℕ)) (h : List ℕ) → presents p h ≡ true → p ≡ Some h
presented-is (Some b) h e = ap Some (same-eq b h e)
presented-is None h e = absurd (false≢true e)

module _ {t : ℕ} {slots : List Slot} {standing : List Held} {seen : List (List ℕ)} (v : Invariant t slots standing seen) (once : NeverTwice seen)
    (p : Option (List ℕ)) where
  abbrev shown : Slot
  shown = shown_slot Token p slots

  abbrev key : Slot → Bool
  key = sought_key Token p

  -- the one token that is found, and those that pass a test
  first-all : replace_first key free_slot slots ≡ replace_all free_slot key slots
  first-all = replace_first-map (λ _. free_slot) key free_slot slots (one-slot v once Token p) ∙ sym (replace_all-map free_slot key slots)

  and-others : (q : Slot → Bool) → q free_slot ≡ false → replace_all free_slot q (replace_all free_slot key slots) ≡ replace_all free_slot (λ s. key s || q s) slots
  and-others q none =
      rw (replace_all-map free_slot q (replace_all free_slot key slots), replace_all-map free_slot key slots, replace_all-map free_slot (λ s. key s || q s) slots)
      (map-map _ _ slots ∙ ap (λ (f : Slot → Slot). map f slots) (fun_ext (λ s. by (key s) s)))
    where
      by : (k : Bool) (s : Slot) → cond (q (cond k free_slot s)) free_slot (cond k free_slot s) ≡ cond (k || q s) free_slot s
      by true s = rw none
      by false s = refl

  -- the token that is found has the handle presented
  has-handle : is_live t shown ≡ true → (s : Slot) → key s ≡ (is_sought Token s && same shown.handle s.handle)
  has-handle live s =
      let found = and_right (is_sought Token shown) (shows p shown) (shown-key t slots Token p live) in
      ap (λ (o : Option (List ℕ)). is_sought Token s && presents o s.handle) (presented-is p shown.handle found)

  pub revoked-is : revoked_slots t p slots ≡ replace_all free_slot (λ s. is_live t shown && goes_with_slot shown s) slots
  unfolding free_slot
  revoked-is = by (is_live t shown) refl
    where
      from : Slot → Bool
      from s = comes_from Access (origin_of shown) s

      with-access : (b : Bool) → cond b (replace_all free_slot from (replace_all free_slot key slots)) (replace_all free_slot key slots)
          ≡ replace_all free_slot (λ s. key s || b && from s) slots
      with-access true = and-others from refl
      with-access false = ap (λ (k : Slot → Bool). replace_all free_slot k slots) (fun_ext (λ s. sym (or-false (key s))))

      by : (b : Bool) → is_live t shown ≡ b → cond b (without_shown p slots) slots ≡ replace_all free_slot (λ s. b && goes_with_slot shown s) slots
      by true live =
          rw first-all
          (with-access (is_sought Refresh shown)
          ∙ ap (λ (k : Slot → Bool). replace_all free_slot k slots)
          (fun_ext (λ s. ap (λ (b : Bool). b || is_sought Refresh shown && from s) (has-handle live s))))
      by false live = sym (replace_all-map free_slot (λ s. false) slots ∙ map-id slots)

  -- ---- any revocation

  module _ (random : List ℕ) (d : Option (List ℕ)) (r : RevocationRequest) where
    abbrev granted : Bool
    granted = is_grant (decision_on (plan_for t slots random p d (Revocation r)))

    abbrev own : Slot → Bool
    own s = eqb s.client r.client

    granted-is : granted ≡ not (is_live t shown && not (own shown))
    unfolding plan_for revocation_plan every
    granted-is = grant-every (revocation_plan t slots random p r).reasons ∙ and-true _

    -- it is done unless a live token of another client is shown
    pub revocation-answer : granted ≡ not (any (λ e. is_live t (as_slot e) && (key (as_slot e) && not (eqb e.client r.client))) standing)
    revocation-answer = granted-is ∙ ap not (sym (contained v once Token p (λ s. not (own s))))

    -- what goes with the token shown goes with one that stands
    pub revoked-held : granted ≡ true → (s : Slot) → is_revoked_held t p r.client standing s ≡ (is_live t shown && goes_with_slot shown s)
    revoked-held e s = contained v once Token p (λ x. own x && goes_with_slot x s) ∙ by (is_live t shown) (own shown) (sym granted-is ∙ e)
      where
        by : (live mine : Bool) → not (live && not mine) ≡ true → (live && (mine && goes_with_slot shown s)) ≡ (live && goes_with_slot shown s)
        by true true q = refl
        by true false q = absurd (false≢true q)
        by false mine q = refl

    pub revoked-kept : granted ≡ true
        → Invariant t (revoked_slots t p slots) (keep (λ e. not (is_revoked_held t p r.client standing (as_slot e))) standing) seen
    revoked-kept e =
        rw (revoked-is, ap (λ (k : Slot → Bool). keep (λ x. not (k (as_slot x))) standing) (fun_ext (revoked-held e)))
        (invariant-withdraw v (λ s. is_live t shown && goes_with_slot shown s))
