-- What it is to stand, in the paper's words: the calls contain the issue, and no later call ended it, by exchanging the code, by revoking
-- the token or as a second showing (`standing-means`); and that the codes and tokens that our server issues, read from its answers, are
-- the random bytes that it was handed (`random-code`, `random-access`, `random-refresh`).
--
-- In order: what one event issued and ended; what stands after one event; after a list of them; codes and tokens.
-- Assumes nothing.
use mathlib.Core.Path.{◌≡◌, refl, sym, ap, ap₂, ◌∙◌, subst}
use mathlib.Core.Logic.{◌↔◌, ◌⊎◌, inl, inr}
use mathlib.Core.Bool.{Bool, true, false, not, cond, ◌&&◌, ◌||◌, false≢true, true≢false}
use mathlib.Core.List.Memᴰ
use mathlib.Core.List.{List, [], ◌∷◌, ◌++◌, map, Memᴰ}
use Prim.Native.Nat.{ℕ, max, ◌≤◌}
use native.Mathlib.Omega.{arith}
use borrow.Author.Tests.{not-true}
use lib.ListN.{length, length-drop}
use lib.Seq.{length-take-le}
use Rattle.octets.specs.Text.{bytes}
use Rattle.octets.specs.Search.{keep}
use Rattle.octets.proofs.Booleans.{or-none}
use Rattle.octets.proofs.Counting.{keep-in, keep_out, member-map}
use Rattle.encoding.specs.Hex.{hex_text}
use Rattle.client_registry.specs.Layout.{redirect_room}
use Rattle.client_registry.proofs.Clients.{redirect-most}
use Rattle.client_registry.specs.Registry.{Client, clients_of}
use Rattle.client_registry.specs.Lookup.{number_of, client_at}
use Rattle.token_store.specs.Store.{Store, decode, call_time}
use Rattle.protocol.specs.Limits.{code_random, token_random}
use Rattle.protocol.specs.Answers.{is_grant}
use Rattle.protocol.specs.Authorization.{query_client}
use Rattle.protocol.specs.Token.{read_token}
use Rattle.protocol.specs.Granting.{second_handle, decision_on}
use Rattle.protocol.specs.Outcomes.{Handed}
use Rattle.history.specs.Calls.{Call, authorization, token, handed_to, Event}
use Rattle.history.specs.Server.{outcome_of, result_of, ours}
use Rattle.history.specs.Contents.{spent, Issue, is_a, value_of, is_exchange, code_in, access_in, refresh_in, first_twenty, last_twenty, twenties, issued_by, is_spent_by, as_spent, after_grant, is_withdrawn_by, is_revoked_by, standing_after, Contents, nothing_yet, with_event, with_events}
use Rattle.history.proofs.Readings.{second-last}
use Rattle.history.proofs.AnyCall.{outcome_on, asked, unfit_to, is_past, seen-past, past-buffers, past-registry, fit-size, plan_on, granted-on}
use Rattle.history.proofs.Asking.{ReadAs, refused_as, exchange_as, refresh_as, credentials_as, token-read}
use Rattle.history.proofs.Shown.{never-refused, code-text, access-text, refresh-text}

-- ---- one event

-- it was seen, and granted
abbrev is_issue : Event → Bool
is_issue e = not e.result.unfit && e.result.granted

map-in : {A B : Type 0} (f : A → B) (x : A) (l : List A) → Memᴰ x l → Memᴰ (f x) (map f l)
map-in f x [] m = absurd (Memᴰ.not-nil m)
map-in f x (y ∷ ys) m = by (Memᴰ.cases_cons m) (map-in f x ys)
  where
    by : (x ≡ y) ⊎ Memᴰ x ys → (Memᴰ x ys → Memᴰ (f x) (map f ys)) → Memᴰ (f x) (f y ∷ map f ys)
    by (inl e) ih = Memᴰ.head (ap f e)
    by (inr i) ih = Memᴰ.tail (ih i)

module _ (clients : List Client) where
  abbrev time_of : Contents → Event → ℕ
  time_of c e = max (handed_to e.call).clock c.highest

  -- what it issued, after calls that contain c
  unfoldable pub issued_in : Contents → Event → List Issue
  issued_in c e = cond (is_issue e) (issued_by clients (time_of c e) c.standing e.call e.result) []

  -- whether it ended x: it exchanged the code x, or revoked the token x, or was a second showing that withdrew it
  unfoldable pub ended_in : Contents → Event → Issue → Bool
  ended_in c e x =
      not e.result.unfit
      && cond e.result.granted (is_spent_by e.call x || is_revoked_by clients (time_of c e) c.standing e.call x)
      (is_withdrawn_by clients (time_of c e) c.standing e.call x)

  unfoldable pub Unended : Contents → Issue → List Event → Type 0
  Unended c x [] = Unit {0}
  Unended c x (e ∷ es) = (ended_in c e x ≡ false) × Unended (with_event clients e c) x es

  -- some call of the list issued x, and no later one ended it; c is what the calls before the list contain
  unfoldable pub Contained : Contents → Issue → List Event → Type 0
  Contained c x [] = ⊥
  Contained c x (e ∷ es) =
      let after = with_event clients e c in
      (Memᴰ x (issued_in c e) × Unended after x es) ⊎ Contained after x es

  -- ---- what stands after one event

  module _ (x : Issue) (unspent : is_a spent x ≡ false) where
    -- a code that is exchanged is x no longer
    kept_in : (call : Call) (l : List Issue) → Memᴰ x (map (after_grant call) l) ↔ (Memᴰ x l × (is_spent_by call x ≡ false))
    kept_in call l = (λ m. member-map (after_grant call) Was l was x m refl, back)
      where
        Was : Issue → Type 0
        Was y = y ≡ x → Memᴰ x l × (is_spent_by call x ≡ false)

        by : (y : Issue) → Memᴰ y l → (b : Bool) → is_spent_by call y ≡ b → cond b (as_spent y) y ≡ x → Memᴰ x l × (is_spent_by call x ≡ false)
        by y m true q e = absurd (true≢false (ap (is_a spent) e ∙ unspent))
        by y m false q e = subst (λ (z : Issue). Memᴰ z l × (is_spent_by call z ≡ false)) e (m, q)

        was : (y : Issue) → Memᴰ y l → Was (after_grant call y)
        was y m e = by y m (is_spent_by call y) refl e

        back : Memᴰ x l × (is_spent_by call x ≡ false) → Memᴰ x (map (after_grant call) l)
        back p =
            subst (λ (y : Issue). Memᴰ y (map (after_grant call) l)) (ap (λ (b : Bool). cond b (as_spent x) x) p.1) (map-in (after_grant call) x l p.0)

    abbrev Came : Contents → Event → Type 0
    Came c e = Memᴰ x (issued_in c e) ⊎ (Memᴰ x c.standing × (ended_in c e x ≡ false))

    -- nor is one that is revoked
    left_in : (call : Call) (revoked : Issue → Bool) (l : List Issue)
        → Memᴰ x (map (after_grant call) (keep (λ y. not (revoked y)) l)) ↔ (Memᴰ x l × ((is_spent_by call x || revoked x) ≡ false))
    left_in call revoked l = (there, back)
      where
        left : Issue → Bool
        left y = not (revoked y)

        there : Memᴰ x (map (after_grant call) (keep left l)) → Memᴰ x l × ((is_spent_by call x || revoked x) ≡ false)
        there m =
            let k = (kept_in call (keep left l)).0 m in
            let was = keep_out left x l k.0 in
            (was.0, ap₂ ◌||◌ k.1 (not-true (revoked x) was.1))

        back : Memᴰ x l × ((is_spent_by call x || revoked x) ≡ false) → Memᴰ x (map (after_grant call) (keep left l))
        back p =
            let none = or-none (is_spent_by call x) (revoked x) p.1 in
            (kept_in call (keep left l)).1 (keep-in left x l p.0 (ap not none.1), none.0)

    pub entered : (c : Contents) (e : Event) → Memᴰ x (with_event clients e c).standing ↔ Came c e
    unfolding with_event standing_after issued_in ended_in
    entered c e = by e.result.unfit e.result.granted
      where
        issued : List Issue
        issued = issued_by clients (time_of c e) c.standing e.call e.result

        gone : Issue → Bool
        gone = is_withdrawn_by clients (time_of c e) c.standing e.call

        revoked : Issue → Bool
        revoked = is_revoked_by clients (time_of c e) c.standing e.call

        old : List Issue
        old = map (after_grant e.call) (keep (λ y. not (revoked y)) c.standing)

        grown : List Issue
        grown = issued ++ old

        thinned : List Issue
        thinned = keep (λ y. not (gone y)) c.standing

        Then : Bool → Bool → Type 0
        Then unfit granted =
            Memᴰ x (cond unfit c (record { highest = time_of c e; standing = cond granted grown thinned; randoms = twenties e.call ++ c.randoms })).standing
            ↔ (Memᴰ x (cond (not unfit && granted) issued [])
            ⊎ (Memᴰ x c.standing × ((not unfit && cond granted (is_spent_by e.call x || revoked x) (gone x)) ≡ false)))

        by : (unfit granted : Bool) → Then unfit granted
        by true granted = (λ m. inr (m, refl), back)
          where
            back : Memᴰ x [] ⊎ (Memᴰ x c.standing × (false ≡ false)) → Memᴰ x c.standing
            back (inl m) = absurd (Memᴰ.not-nil m)
            back (inr p) = p.0
        by false true = (λ m. there (Memᴰ.append_cases issued m), back)
          where
            there : Memᴰ x issued ⊎ Memᴰ x old
                → Memᴰ x issued ⊎ (Memᴰ x c.standing × ((is_spent_by e.call x || revoked x) ≡ false))
            there (inl m) = inl m
            there (inr m) = inr ((left_in e.call revoked c.standing).0 m)

            back : Memᴰ x issued ⊎ (Memᴰ x c.standing × ((is_spent_by e.call x || revoked x) ≡ false)) → Memᴰ x grown
            back (inl m) = Memᴰ.append_left old m
            back (inr p) = Memᴰ.append_right issued ((left_in e.call revoked c.standing).1 p)
        by false false = (λ m. let k = keep_out (λ y. not (gone y)) x c.standing m in inr (k.0, not-true (gone x) k.1), back)
          where
            back : Memᴰ x [] ⊎ (Memᴰ x c.standing × (gone x ≡ false)) → Memᴰ x thinned
            back (inl m) = absurd (Memᴰ.not-nil m)
            back (inr p) = keep-in (λ y. not (gone y)) x c.standing p.0 (ap not p.1)

  -- ---- and after a list of them

  abbrev Stood : Contents → Issue → List Event → Type 0
  Stood c x es = (Memᴰ x c.standing × Unended c x es) ⊎ Contained c x es

  stood : (x : Issue) → is_a spent x ≡ false → (c : Contents) (es : List Event) → Memᴰ x (with_events clients c es).standing ↔ Stood c x es
  unfolding with_events Contained Unended
  stood x unspent c [] = (λ m. inl (m, tt), back)
    where
      back : (Memᴰ x c.standing × Unit {0}) ⊎ ⊥ → Memᴰ x c.standing
      back (inl p) = p.0
      back (inr k) = absurd k
  stood x unspent c (e ∷ es) = let r = stood x unspent (with_event clients e c) es in (λ m. there (r.0 m), λ k. r.1 (back k))
    where
      split : Came x unspent c e → Unended (with_event clients e c) x es → Stood c x (e ∷ es)
      split (inl i) u = inr (inl (i, u))
      split (inr p) u = inl (p.0, (p.1, u))

      there : Stood (with_event clients e c) x es → Stood c x (e ∷ es)
      there (inl p) = split ((entered x unspent c e).0 p.0) p.1
      there (inr k) = inr (inr k)

      back : Stood c x (e ∷ es) → Stood (with_event clients e c) x es
      back (inl p) = inl ((entered x unspent c e).1 (inr (p.0, p.1.0)), p.1.1)
      back (inr (inl p)) = inl ((entered x unspent c e).1 (inl p.0), p.1)
      back (inr (inr k)) = inr k

  -- a code that is not spent, or a token, stands exactly when some call issued it and no later call exchanged, revoked or withdrew it
  pub standing-means : (x : Issue) → is_a spent x ≡ false → (es : List Event)
      → Memᴰ x (with_events clients nothing_yet es).standing ↔ Contained nothing_yet x es
  standing-means x unspent es = let s = stood x unspent nothing_yet es in (λ m. there (s.0 m), λ k. s.1 (inr k))
    where
      there : Stood nothing_yet x es → Contained nothing_yet x es
      there (inl p) = absurd (Memᴰ.not-nil p.0)
      there (inr k) = k

-- ---- codes and tokens are random bytes

module _ (registry store : List ℕ) where
  abbrev clients : List Client
  clients = clients_of registry

  abbrev g : Store
  g = decode store

  -- a call that is neither refused with 1 to 4 nor otherwise
  module _ (c : Call) (fit : (ours registry store c).unfit ≡ false) where
    served : (is_past registry store c ≡ true) × (outcome_of registry store c ≡ outcome_on clients g c)
    served = seen-past registry store c fit

    sized : unfit_to c ≡ false
    sized = past-buffers registry store c served.0

    short : (n : ℕ) → length (client_at clients n).redirect ≤ redirect_room
    short = redirect-most registry (past-registry registry store c served.0)

    granted-plan : (ours registry store c).granted ≡ true → is_grant (decision_on (plan_on clients g c)) ≡ true
    granted-plan e = sym (granted-on clients g c) ∙ (rw served.1 at e)

  first-twenty : (n : ℕ) (random : List ℕ) → length random ≡ n → 20 ≤ n → length (first_twenty random) ≡ 20
  first-twenty n random e h = length-take-le 20 random (omega (arith, e))

  module _ (query : List ℕ) (decision farm : ℕ) (handed : Handed) where
    abbrev authorizes : Call
    authorizes = authorization query decision farm handed

    pub random-code : (ours registry store authorizes).unfit ≡ false → (ours registry store authorizes).granted ≡ true
        → let client = client_at clients (number_of (value_of query (bytes "client_id")) clients) in
        code_in client (ours registry store authorizes) ≡ hex_text (first_twenty handed.random)
    unfolding query_client unfit_to asked handed_to
    random-code fit granted =
        let size = fit-size code_random handed (sized authorizes fit) in
        rw (served authorizes fit).1
        (code-text clients (short authorizes fit) g [] query decision farm handed (sized authorizes fit) (granted-plan authorizes fit granted)
        (first-twenty code_random handed.random size (omega arith)))

  module _ (header body : List ℕ) (handed : Handed) (fit : (ours registry store (token header body handed)).unfit ≡ false)
      (granted : (ours registry store (token header body handed)).granted ≡ true) where
    abbrev asks : Call
    asks = token header body handed

    size : length handed.random ≡ token_random
    unfolding unfit_to
    size = fit-size token_random handed (sized asks fit)

    first : length (first_twenty handed.random) ≡ 20
    first = first-twenty token_random handed.random size (omega arith)

    pub random-access : access_in (ours registry store asks) ≡ hex_text (first_twenty handed.random)
    unfolding asked handed_to
    random-access =
        rw (served asks fit).1
        (access-text clients (short asks fit) g [] header body handed (sized asks fit) refl (granted-plan asks fit granted) first)

    pub random-refresh : is_exchange body ≡ true → refresh_in (ours registry store asks) ≡ hex_text (last_twenty handed.random)
    unfolding asked handed_to
    random-refresh is = rw ((served asks fit).1, ← (second-last handed.random size)) (by (token-read clients header body))
      where
        at : ℕ
        at = call_time g handed.clock

        by : ReadAs clients header body (read_token clients header body)
            → refresh_in (result_of (outcome_on clients g asks)) ≡ hex_text (second_handle handed.random)
        by (refused_as r e) = never-refused at g.slots handed.random r (rw e at (granted-plan asks fit granted))
        by (exchange_as _ e) =
            refresh-text clients (short asks fit) g [] header body handed (sized asks fit) e (rw e at (granted-plan asks fit granted)) first
            (rw (second-last handed.random size) (simp length-drop (omega (arith, size))))
        by (refresh_as other _ e) = absurd (false≢true (sym other ∙ is))
        by (credentials_as other _ _ e) = absurd (false≢true (sym other ∙ is))
