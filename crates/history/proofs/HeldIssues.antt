-- What stands by the calls, between the slots of the store and the issues of the claim: a thing issued, as the slot that holds it
-- (`as_slot`) and as the issue that its answer shows (`as_issue`), and the claim's tests of the issue as tests of the slot.
--
-- A thing issued carries that its handle is twenty bytes, so that its text presents it and nothing else does; and that a code's challenge is
-- what its text stands for, so that the text tells it from others.
--
-- In order: handles; things issued; sort by sort; the tests; slots that pass the same tests are one.
-- Assumes nothing.
use mathlib.Core.Path.{◌≡◌, refl, sym, ap, ap₂, ◌∙◌}
use mathlib.Core.Bool.{Bool, true, false, cond, ◌&&◌, not, ◌||◌, false≢true, not-not}
use mathlib.Core.List.{List}
use Prim.Native.Nat.{ℕ}
use borrow.Author.Tests.{eq-eqb, eqb-true}
use lib.Dec.{eqb, ltb}
use lib.ListN.{length, replicate}
use lib.Seq.{take_at}
use Rattle.octets.specs.Lists.{same, Bytes}
use Rattle.octets.proofs.Booleans.{by-test}
use Rattle.octets.proofs.Lists.{same_refl, same-eq, zero-bytes}
use Rattle.encoding.specs.Hex.{hex_text, read_handle, presents}
use Rattle.encoding.specs.Base64.{url, base64_text}
use Rattle.encoding.proofs.Hex.{same-handle}
use Rattle.form.specs.Content.{Value, missing, once, is_once}
use Rattle.client_registry.specs.Registry.{Client}
use Rattle.client_registry.specs.Lookup.{client_at}
use Rattle.protocol.specs.Granting.{is_unverified, is_issued_on}
use Rattle.protocol.specs.Token.{challenge_answered}
use Rattle.token_store.specs.Layout.{handle_size}
use Rattle.token_store.specs.Store.{code_kind, kind_access, kind_refresh, kind_spent, no_link, link_to, origin_of, spent_code, is_used, is_bound_code, is_sought, is_live, shows, sought_key}
use Rattle.token_store.specs.declared.Slot.{Slot}
use Rattle.token_store.specs.declared.Sought.{Sought}
use Rattle.token_store.specs.declared.Sought.TheVariants.{Code, Spent, Access, Refresh, Token}
use Rattle.history.specs.Contents.{Sort, code, spent, access, refresh, Issue, is_a, is_live_at, is_token, is_of, is_token_from}
use Rattle.history.specs.Claim.{is_repeated_by, is_answered_by}
use Rattle.history.proofs.Challenges.{Digest, no_digest, answered-is}

-- ---- handles

pub record Handle : Type 0 where
  pub octets : List ℕ
  pub size : length octets ≡ handle_size
  pub small : Bytes octets

-- ---- things issued

pub record Held : Type 0 where
  pub sort : Sort
  -- of a code: a redirect address was given, which was the client's
  pub bound : Bool
  -- of a code: a challenge was given, of these bytes
  pub challenged : Bool
  pub challenge : Digest
  pub handle : Handle
  pub client : ℕ
  pub farm : ℕ
  pub scope : ℕ
  pub expiry : ℕ
  -- the handle of the code that it came from; a code, and a client's token for itself, came from itself
  pub origin : Handle

abbrev pub kind_of : Sort → Bool → Bool → ℕ
kind_of code bound challenged = code_kind bound challenged
kind_of spent bound challenged = kind_spent
kind_of access bound challenged = kind_access
kind_of refresh bound challenged = kind_refresh

-- a slot shows the challenge of a code and the origin of a token
abbrev pub link_in : Sort → List ℕ → List ℕ → List ℕ
link_in code challenge origin = challenge
link_in spent challenge origin = no_link
link_in access challenge origin = link_to origin
link_in refresh challenge origin = link_to origin

abbrev pub as_slot : Held → Slot
as_slot e = record {
  kind = kind_of e.sort e.bound e.challenged;
  handle = e.handle.octets;
  client = e.client;
  farm = e.farm;
  scope = e.scope;
  expiry = e.expiry;
  link = link_in e.sort e.challenge.octets e.origin.octets;
}

abbrev pub as_issue : List Client → Held → Issue
as_issue clients e = record {
  sort = e.sort;
  text = hex_text e.handle.octets;
  client = e.client;
  farm = e.farm;
  scope = e.scope;
  address = cond e.bound (once (client_at clients e.client).redirect) missing;
  challenge = cond e.challenged (once (base64_text url e.challenge.octets)) missing;
  expiry = e.expiry;
  origin = hex_text e.origin.octets;
}

-- what a look-up seeks for a sort
abbrev pub sought : Sort → Sought
sought code = Code
sought spent = Spent
sought access = Access
sought refresh = Refresh

-- two tests and what each asks besides, where the second asks it
pub and-agree : {a b x y : Bool} → a ≡ b → (b ≡ true → x ≡ y) → (a && x) ≡ (b && y)
and-agree {b = true} e same = ap₂ ◌&&◌ e (same refl)
and-agree {b = false} e same = rw e

-- ---- sort by sort

-- with another sort, bound and challenged
abbrev pub turned : Held → Sort → Bool → Bool → Held
turned e sort bound challenged = record {
  sort = sort;
  bound = bound;
  challenged = challenged;
  challenge = e.challenge;
  handle = e.handle;
  client = e.client;
  farm = e.farm;
  scope = e.scope;
  expiry = e.expiry;
  origin = e.origin;
}

-- once it is exchanged
abbrev pub spent_held : Held → Held
spent_held e = turned e spent e.bound e.challenged

-- of codes both answers to whether it is bound and whether it is challenged
by-sort : (P : Held → Type 0) (e : Held)
    → P (turned e code true true) → P (turned e code true false) → P (turned e code false true) → P (turned e code false false)
    → P (spent_held e) → P (turned e access e.bound e.challenged) → P (turned e refresh e.bound e.challenged) → P e
by-sort P e w x y v z a r = by e.sort e.bound e.challenged z a r
  where
    by : (s : Sort) (b c : Bool) → P (turned e spent b c) → P (turned e access b c) → P (turned e refresh b c) → P (turned e s b c)
    by code true true z a r = w
    by code true false z a r = x
    by code false true z a r = y
    by code false false z a r = v
    by spent b c z a r = z
    by access b c z a r = a
    by refresh b c z a r = r

-- ---- the tests

pub used : (e : Held) → is_used (as_slot e) ≡ true
used e = by-sort (λ x. is_used (as_slot x) ≡ true) e refl refl refl refl refl refl refl

-- a token's origin is shown
pub token-origin : (e : Held) → is_sought Token (as_slot e) ≡ true → origin_of (as_slot e) ≡ e.origin.octets
token-origin e =
    by-sort (λ x. is_sought Token (as_slot x) ≡ true → origin_of (as_slot x) ≡ x.origin.octets) e none none none none none
    (λ k. linked) (λ k. linked)
  where
    none : {A : Type 0} → false ≡ true → A
    none k = absurd (false≢true k)

    linked : origin_of (as_slot (turned e access e.bound e.challenged)) ≡ e.origin.octets
    linked = take_at e.origin.octets (replicate 12 0) handle_size e.origin.size

-- a code once it is exchanged
pub spent-slot : (e : Held) → is_sought Code (as_slot e) ≡ true → as_slot (spent_held e) ≡ spent_code (as_slot e)
spent-slot e = by-sort (λ x. is_sought Code (as_slot x) ≡ true → as_slot (spent_held x) ≡ spent_code (as_slot x)) e
    (λ k. refl) (λ k. refl) (λ k. refl) (λ k. refl) (λ k. refl) (λ k. absurd (false≢true k)) (λ k. absurd (false≢true k))

module _ (clients : List Client) where
  pub issue-live : (t : ℕ) (e : Held) → is_live_at t (as_issue clients e) ≡ is_live t (as_slot e)
  issue-live t e = ap (λ (b : Bool). b && ltb t e.expiry) (sym (used e))

  pub issue-sort : (sort : Sort) (e : Held) → is_a sort (as_issue clients e) ≡ is_sought (sought sort) (as_slot e)
  issue-sort code e = by-sort (λ x. is_a code (as_issue clients x) ≡ is_sought Code (as_slot x)) e refl refl refl refl refl refl refl
  issue-sort spent e = by-sort (λ x. is_a spent (as_issue clients x) ≡ is_sought Spent (as_slot x)) e refl refl refl refl refl refl refl
  issue-sort access e = by-sort (λ x. is_a access (as_issue clients x) ≡ is_sought Access (as_slot x)) e refl refl refl refl refl refl refl
  issue-sort refresh e = by-sort (λ x. is_a refresh (as_issue clients x) ≡ is_sought Refresh (as_slot x)) e refl refl refl refl refl refl refl

  issue-of : (text : List ℕ) (e : Held) → is_of text (as_issue clients e) ≡ shows (read_handle text) (as_slot e)
  issue-of text e = same-handle text e.handle.octets e.handle.size e.handle.small

  pub issue-key : (sort : Sort) (text : List ℕ) (e : Held)
      → (is_a sort (as_issue clients e) && is_of text (as_issue clients e)) ≡ sought_key (sought sort) (read_handle text) (as_slot e)
  issue-key sort text e = ap₂ ◌&&◌ (issue-sort sort e) (issue-of text e)

  -- a token of either sort
  pub issue-token : (e : Held) → is_token (as_issue clients e) ≡ is_sought Token (as_slot e)
  issue-token e = ap₂ ◌||◌ (issue-sort access e) (issue-sort refresh e)

  pub token-key : (text : List ℕ) (e : Held)
      → (is_token (as_issue clients e) && is_of text (as_issue clients e)) ≡ sought_key Token (read_handle text) (as_slot e)
  token-key text e = ap₂ ◌&&◌ (issue-token e) (issue-of text e)

  -- the origin of a token is the code of a text
  origin-of : (text : List ℕ) (e : Held) → is_sought Token (as_slot e) ≡ true
      → same text (as_issue clients e).origin ≡ presents (read_handle text) (origin_of (as_slot e))
  origin-of text e is =
      same-handle text e.origin.octets e.origin.size e.origin.small ∙ ap (presents (read_handle text)) (sym (token-origin e is))

  -- a token from the code of a text; and an access token
  pub issue-from : (text : List ℕ) (e : Held) → is_token_from text (as_issue clients e) ≡ is_issued_on (read_handle text) (as_slot e)
  issue-from text e = and-agree (issue-token e) (origin-of text e)

  pub access-from : (text : List ℕ) (e : Held)
      → (is_a access (as_issue clients e) && same text (as_issue clients e).origin)
      ≡ (is_sought Access (as_slot e) && presents (read_handle text) (origin_of (as_slot e)))
  access-from text e =
      and-agree (issue-sort access e) (λ is. origin-of text e (ap (λ (b : Bool). b || is_sought Refresh (as_slot e)) is))

  -- for client n, an address that was given is repeated where the client's is
  given-again : (n : ℕ) (given : Value) (e : Held) (bound : Bool)
      → (eqb e.client n && is_repeated_by (cond bound (once (client_at clients e.client).redirect) missing) given)
      ≡ (eqb e.client n && (not bound || is_once (client_at clients n).redirect given))
  unfolding is_repeated_by
  given-again n given e true =
      by-test (eqb e.client n) (λ q. rw (eqb-true e.client n q)) (λ q. rw q)
  given-again n given e false = refl

  -- a code for client n, whose address and challenge, if any were given, are repeated and answered
  pub issue-exchanged : (text : List ℕ) (n : ℕ) (given verifier : Value) (e : Held) → let i = as_issue clients e in
      (is_a code i && is_of text i && (eqb i.client n && is_repeated_by i.address given && is_answered_by i.challenge verifier))
      ≡ (sought_key Code (read_handle text) (as_slot e)
      && (eqb e.client n && (not (is_bound_code (as_slot e)) || is_once (client_at clients n).redirect given)
      && not (is_unverified (challenge_answered verifier) (as_slot e))))
  unfolding is_answered_by
  issue-exchanged text n given verifier e =
      by-sort Exchanged e (both true true) (both true false) (both false true) (both false false) refl refl refl
    where
      Exchanged : Held → Type 0
      Exchanged x =
          let i = as_issue clients x in
          (is_a code i && is_of text i && (eqb i.client n && is_repeated_by i.address given && is_answered_by i.challenge verifier))
          ≡ (sought_key Code (read_handle text) (as_slot x)
          && (eqb x.client n && (not (is_bound_code (as_slot x)) || is_once (client_at clients n).redirect given)
          && not (is_unverified (challenge_answered verifier) (as_slot x))))

      given-answered : (c : Bool) → is_answered_by (cond c (once (base64_text url e.challenge.octets)) missing) verifier
          ≡ not (c && not (presents (challenge_answered verifier) e.challenge.octets))
      given-answered true = answered-is e.challenge verifier ∙ sym (not-not _)
      given-answered false = refl

      both : (b c : Bool) → let i = as_issue clients (turned e code b c) in
          (is_of text i && (eqb e.client n && is_repeated_by i.address given && is_answered_by i.challenge verifier))
          ≡ (shows (read_handle text) (as_slot e)
          && (eqb e.client n && (not b || is_once (client_at clients n).redirect given)
          && not (c && not (presents (challenge_answered verifier) e.challenge.octets))))
      both b c = ap₂ ◌&&◌ (issue-of text e) (ap₂ ◌&&◌ (given-again n given e b) (given-answered c))

-- what stands where nothing was issued: it is never live
abbrev pub zeros : Handle
zeros = record { octets = replicate handle_size 0; size = refl; small = zero-bytes handle_size }

unfoldable pub none_held : Held
none_held = record {
  sort = code;
  bound = false;
  challenged = false;
  challenge = no_digest;
  handle = zeros;
  client = 0;
  farm = 0;
  scope = 0;
  expiry = 0;
  origin = zeros;
}

-- ---- slots that pass the same tests

pub tests-tell : (a b : Slot) → ((p : Slot → Bool) → p a ≡ true → p b ≡ true) → a ≡ b
tests-tell a b told =
    λ i. record {
      kind = number (λ s. s.kind) i;
      handle = octets (λ s. s.handle) i;
      client = number (λ s. s.client) i;
      farm = number (λ s. s.farm) i;
      scope = number (λ s. s.scope) i;
      expiry = number (λ s. s.expiry) i;
      link = octets (λ s. s.link) i;
    }
  where
    octets : (f : Slot → List ℕ) → f a ≡ f b
    octets f = same-eq (f a) (f b) (told (λ s. same (f a) (f s)) (same_refl (f a)))

    number : (f : Slot → ℕ) → f a ≡ f b
    number f = eqb-true (f a) (f b) (told (λ s. eqb (f a) (f s)) (eq-eqb (f a) (f a) refl))
