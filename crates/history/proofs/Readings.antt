-- What reading a call can give: the bounds of what it asks for, so that what is issued on it fits a slot, and the scope asked.
--
-- In order: scope sets; the scope asked, by the server's tests and by the claim's; the clients of a fit registry; what a request
-- brings, and that every query and every body is read so.
-- Assumes nothing.
use mathlib.Core.Path.{◌≡◌, refl}
use mathlib.Core.Bool.{Bool, true, false, not, cond, ◌&&◌, ◌||◌}
use mathlib.Core.List.{List, [], ◌∷◌, ◌++◌}
use Prim.Native.Nat.{ℕ, ◌^◌, ◌≤◌, ◌<◌}
use Rattle.std.specs.Prelude.{Option, Some, None}
use native.Mathlib.Omega.{arith}
use borrow.Author.Tests.{ltb-true, eqb-true, not-false}
use lib.Dec.{eqb, lit<}
use lib.ListN.{length, drop, get_or, length-drop}
use lib.Seq.{take_all, length-take-le}
use Rattle.octets.specs.Text.{bytes}
use Rattle.octets.specs.Lists.{every, Bytes}
use Rattle.octets.proofs.Lists.{every-at, take-bytes, drop-bytes}
use Rattle.octets.proofs.Booleans.{of_T, or-none, both_ways, implied, implies}
use Rattle.octets.proofs.Table.{at}
use Rattle.form.specs.Content.{Value, missing, once, repeated, form_value, is_missing, is_repeated, only_value, is_once}
use Rattle.scope.specs.Set.{has, is_within, of_byte}
use Rattle.scope.specs.Value.{read_scope}
use Rattle.scope.specs.declared.Scope.{Scope}
use Rattle.scope.proofs.Set.{within_has, has_within}
use Rattle.scope.proofs.Value.{read-bound}
use Rattle.client_registry.specs.Registry.{Client, fit_registry, clients_of}
use Rattle.client_registry.specs.Lookup.{number_of, is_known, client_at}
use Rattle.client_registry.proofs.Clients.{fit_count, fit-client, scope-byte}
use Rattle.octets.proofs.Searches.{each-every}
use Rattle.protocol.specs.Answers.{Decision}
use Rattle.protocol.specs.declared.ScopeAsked.{ScopeAsked}
use Rattle.protocol.specs.declared.ScopeAsked.TheVariants.{Everything, Only, Unreadable}
use Rattle.protocol.specs.declared.Request.{Request}
use Rattle.protocol.specs.declared.Request.TheVariants.{Refused, Code, Exchange, Refresh, Credentials, Revocation}
use Rattle.protocol.specs.declared.Reading.{Reading}
use Rattle.protocol.specs.Limits.{code_random, token_random}
use Rattle.protocol.specs.Requests.{asked_by, scope_asked, fits, scope_given, unless_refused}
use Rattle.protocol.specs.Authorization.{query_client, is_bad_client, code_asked, code_reading, page_reasons, redirect_reasons, read_authorization}
use Rattle.protocol.specs.ClientForms.{came_with, is_bad_header, is_unclear_id, is_impostor, presented_id, call_client, is_invalid_client, form_reasons}
use Rattle.protocol.specs.Token.{token_names, read_exchange, read_refresh, read_credentials, read_grant, read_token}
use Rattle.protocol.specs.Revocation.{revocation_names, read_revocation}
use Rattle.protocol.specs.Granting.{first_handle, second_handle}
use Rattle.protocol.proofs.Reasons.{unrefused, decided}
use Rattle.history.specs.Server.{is_unfit_refusal}
use Rattle.history.specs.Contents.{none_beyond, is_within_granted, names_or, asked_or, last_twenty}
use Rattle.history.proofs.Challenges.{FitChallenge, given-fits}
use Rattle.history.proofs.HeldIssues.{Handle}

-- ---- scope sets

-- a number is a scope set that is not empty
pub record ScopeSet (set : ℕ) : Type 0 where
  pub some : 0 < set
  pub byte : set < 256

abbrev pub AskedSet : ScopeAsked → Type 0
AskedSet Everything = Unit {0}
AskedSet (Only set) = ScopeSet set
AskedSet Unreadable = Unit {0}

scope-read : (v : List ℕ) → AskedSet (asked_by (read_scope v))
unfolding asked_by
scope-read v = by (read_scope v) refl
  where
    by : (r : Option Scope) → read_scope v ≡ r → AskedSet (asked_by r)
    by (Some s) e = let b = read-bound v s e in record { some = omega (arith, b.1); byte = b.0 }
    by None e = tt

scope-asked : (v : Value) → AskedSet (scope_asked v)
unfolding scope_asked
scope-asked missing = tt
scope-asked (once v) = scope-read v
scope-asked repeated = tt

pub scope-given : (asked : ScopeAsked) (granted : ℕ) → AskedSet asked → ScopeSet granted → ScopeSet (scope_given asked granted)
unfolding scope_given
scope-given Everything granted a g = g
scope-given (Only set) granted a g = a
scope-given Unreadable granted a g = g

-- ---- the scope asked is within the granted one

abbrev places : List ℕ
places = 0 ∷ 1 ∷ 2 ∷ 3 ∷ 4 ∷ 5 ∷ 6 ∷ 7 ∷ []

place : (k : ℕ) → k < 8 → get_or places k 0 ≡ k
place k h = eqb-true (get_or places k 0) k (of_T (eqb (get_or places k 0) k) (at {A = ℕ} (λ j x. eqb x j) 0 places tt k h))

within-names : (a b : ℕ) → a < 256 → is_within (of_byte a) (of_byte b) ≡ every (λ k. not (has a k) || has b k) places
within-names a b h =
    let allowed : ℕ → Bool = λ k. not (has a k) || has b k in
    both_ways (is_within (of_byte a) (of_byte b)) (every allowed places)
    (λ w. each-every allowed 0 places (λ i. let k = get_or places i 0 in implied (has a k) (has b k) (within_has (of_byte a) (of_byte b) k w)))
    (λ e. has_within (of_byte a) (of_byte b) h (λ k l. implies (has a k) (has b k) (rw (place k l) at (every-at allowed places 0 e k l))))

-- the server's test is the claim's
pub within-granted : (asked : Value) (set : ℕ) → fits (scope_asked asked) set ≡ is_within_granted asked set
unfolding fits is_within_granted scope_asked asked_by none_beyond
within-granted missing set = refl
within-granted (once v) set = by (read_scope v) refl
  where
    by : (r : Option Scope) → read_scope v ≡ r → fits (asked_by r) set ≡ none_beyond r set
    by (Some s) e = within-names s.bits set (read-bound v s e).0
    by None e = refl
within-granted repeated set = refl

-- and so is the scope given
pub given-asked : (asked : Value) (set : ℕ) → scope_given (scope_asked asked) set ≡ asked_or asked set
unfolding scope_given asked_or scope_asked asked_by names_or
given-asked missing set = refl
given-asked (once v) set = by (read_scope v)
  where
    by : (r : Option Scope) → scope_given (asked_by r) set ≡ names_or r set
    by (Some s) = refl
    by None = refl
given-asked repeated set = refl

-- ---- the clients of a fit registry

pub record FitClients (clients : List Client) : Type 0 where
  pub most : length clients ≤ 64
  pub scope : (n : ℕ) → n < length clients → ScopeSet (client_at clients n).scope

pub clients-fit : (registry : List ℕ) → Bytes registry → fit_registry registry ≡ true → FitClients (clients_of registry)
clients-fit registry bytes fit = record {
  most = (fit_count registry fit).most;
  scope = λ n h. record { some = omega (arith, (fit-client registry fit n h).scope-some); byte = scope-byte registry bytes n };
}

-- ---- what a request brings

-- random bytes for one handle, and for two, and their twenties
pub record OneHandle (random : List ℕ) (twenties : List (List ℕ)) : Type 0 where
  pub size : length random ≡ code_random
  pub small : Bytes random
  pub handles : twenties ≡ first_handle random ∷ []

pub record TwoHandles (random : List ℕ) (twenties : List (List ℕ)) : Type 0 where
  pub size : length random ≡ token_random
  pub small : Bytes random
  pub handles : twenties ≡ first_handle random ∷ second_handle random ∷ []

module _ {random : List ℕ} {twenties : List (List ℕ)} where
  abbrev pub only_of : OneHandle random twenties → Handle
  only_of q = record { octets = first_handle random; size = length-take-le 20 random (omega (arith, q.size)); small = take-bytes 20 random q.small }

  abbrev pub first_of : TwoHandles random twenties → Handle
  first_of q = record { octets = first_handle random; size = length-take-le 20 random (omega (arith, q.size)); small = take-bytes 20 random q.small }

  abbrev pub second_of : TwoHandles random twenties → Handle
  second_of q = record {
    octets = second_handle random;
    size = length-take-le 20 (drop 20 random) (simp length-drop (omega (arith, q.size)));
    small = take-bytes 20 (drop 20 random) (drop-bytes 20 random q.small);
  }

-- the second twenty of forty random bytes are the last
pub second-last : (random : List ℕ) → length random ≡ token_random → second_handle random ≡ last_twenty random
second-last random size = take_all 20 (drop 20 random) (simp length-drop (omega arith))

-- what a slot can hold of a client, a farm and a scope, where there are so many clients
pub record FieldsFit (clients number farm set : ℕ) : Type 0 where
  pub client : number < clients
  pub wide : farm < 2 ^ 32
  pub scope : ScopeSet set

module _ (clients : ℕ) (random : List ℕ) (twenties : List (List ℕ)) (d : Option (List ℕ)) where
  unfoldable pub Brings : Request → Type 0
  Brings (Refused r) = is_unfit_refusal r ≡ false
  Brings (Code r) = OneHandle random twenties × FieldsFit clients r.client r.farm r.scope × FitChallenge d
  Brings (Exchange r) = TwoHandles random twenties
  Brings (Refresh r) = TwoHandles random twenties × AskedSet r.scope
  Brings (Credentials r) = TwoHandles random twenties × FieldsFit clients r.client 0 r.scope
  Brings (Revocation r) = Unit {0}

module _ (clients : ℕ) (random : List ℕ) (twenties : List (List ℕ)) where
  abbrev pub BringsAs : Reading → Type 0
  BringsAs reading = Brings clients random twenties reading.challenge reading.request

  abbrev BringsUnless : Reading → Decision → Type 0
  BringsUnless reading d = BringsAs (unless_refused d reading)

  brings-either : (b : Bool) (x y : Reading) → BringsAs x → BringsAs y → BringsAs (cond b x y)
  brings-either true x y p q = p
  brings-either false x y p q = q

module _ (clients : List Client) where
  client-known : (query : List ℕ) → is_bad_client clients query ≡ false → query_client clients query < length clients
  unfolding is_bad_client query_client
  client-known query e =
      let id = form_value query (bytes "client_id") in
      let known = is_known (only_value id) clients in
      let e₁ = or-none (is_repeated id || is_missing id || not known) (is_repeated (form_value query (bytes "redirect_uri"))) e in
      let e₂ = or-none (is_repeated id || is_missing id) (not known) e₁.0 in
      ltb-true (number_of (only_value id) clients) (length clients) (not-false known e₂.1)

  pub authorization-brings : FitClients clients → {random : List ℕ} {twenties : List (List ℕ)} → OneHandle random twenties
      → (query : List ℕ) (decision farm : ℕ) → farm < 2 ^ 32
      → BringsAs (length clients) random twenties (read_authorization clients query decision farm)
  unfolding read_authorization page_reasons redirect_reasons unless_refused is_unfit_refusal Brings code_asked
  authorization-brings fit {random} {twenties} one query decision farm wide =
      let number = query_client clients query in
      let client = client_at clients number in
      let rs = page_reasons clients query ++ redirect_reasons client query decision farm in
      decided (BringsUnless (length clients) random twenties (code_reading clients query farm)) rs
      (refl, (refl, (refl, (refl, (refl, (refl, (refl, tt)))))))
      (λ granted.
      let known = client-known query (unrefused rs granted 1 (lit< tt)) in
      let asks = form_value query (bytes "scope") in
      let set = scope-given (scope_asked asks) client.scope (scope-asked asks) (fit.scope number known) in
      (one, record { client = known; wide = wide; scope = set }, given-fits (form_value query (bytes "code_challenge"))))

  caller-known : (header body : List ℕ) → is_invalid_client clients header body ≡ false → call_client clients header body < length clients
  unfolding is_invalid_client call_client
  caller-known header body e =
      let known = is_known (presented_id header body) clients in
      let before = came_with header && is_bad_header header || is_unclear_id header body in
      let impostor = is_impostor (client_at clients (number_of (presented_id header body) clients)) header body in
      let e₁ = or-none (before || not known) impostor e in
      ltb-true (number_of (presented_id header body) clients) (length clients) (not-false known (or-none before (not known) e₁.0).1)

  pub token-brings : FitClients clients → {random : List ℕ} {twenties : List (List ℕ)} → TwoHandles random twenties
      → (header body : List ℕ) → BringsAs (length clients) random twenties (read_token clients header body)
  unfolding read_token read_grant read_exchange read_refresh read_credentials form_reasons unless_refused is_unfit_refusal Brings
  token-brings fit {random} {twenties} two header body =
      let grant = form_value body (bytes "grant_type") in
      let n = length clients in
      let number = call_client clients header body in
      let asks = form_value body (bytes "scope") in
      let P = BringsUnless n random twenties in
      let rs = form_reasons token_names (bytes "grant_type") clients header body in
      decided (P _) rs (refl, (refl, tt))
      (λ granted.
      let known = caller-known header body (unrefused rs granted 1 (lit< tt)) in
      let set = scope-given (scope_asked asks) (client_at clients number).scope (scope-asked asks) (fit.scope number known) in
      brings-either n random twenties (is_once (bytes "authorization_code") grant) _ _
      (decided (P _) _ (refl, tt) (λ _. two))
      (brings-either n random twenties (is_once (bytes "refresh_token") grant) _ _
      (decided (P _) _ (refl, tt) (λ _. (two, scope-asked asks)))
      (brings-either n random twenties (is_once (bytes "client_credentials") grant) _ _
      (decided (P _) _ (refl, (refl, tt)) (λ _. (two, record { client = known; wide = omega arith; scope = set }))) refl)))

  pub revocation-brings : (random : List ℕ) (twenties : List (List ℕ)) (header body : List ℕ)
      → BringsAs (length clients) random twenties (read_revocation clients header body)
  unfolding read_revocation form_reasons unless_refused is_unfit_refusal Brings
  revocation-brings random twenties header body =
      decided (BringsUnless (length clients) random twenties _) (form_reasons revocation_names (bytes "token") clients header body) (refl, (refl, tt))
      (λ _. tt)
