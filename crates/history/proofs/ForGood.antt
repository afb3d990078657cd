-- What was revoked is gone for good (`revoked-for-good`).
--
-- No text comes twice as an access token's, since it is the random bytes of the call that issued it. So from the call that answered with the
-- token on, whatever stands as an access token of its text is that issue; the revocation ends it, and no later call brings the text again.
--
-- In order: what stands as an access token of a text; the access token that a call issued; after one call, and after a list of them; lists
-- of calls, one behind the other; the claim.
-- Assumes nothing.
use mathlib.Core.Path.{◌≡◌, refl, sym, ap, ap₂, ◌∙◌, subst}
use mathlib.Core.Logic.{◌⊎◌, inl, inr}
use mathlib.Core.Bool.{Bool, true, false, cond, not, ◌&&◌, ◌||◌, false≢true, true≢false, or-true}
use mathlib.Core.List.{List, [], ◌∷◌, ◌++◌, Memᴰ}
use Prim.Native.Nat.{ℕ, ◌+◌, ◌≤◌, max}
use native.Mathlib.Omega.{arith}
use borrow.Author.Tests.{not-true}
use Rattle.octets.specs.Text.{bytes}
use Rattle.octets.specs.Lists.{Bytes, same}
use Rattle.octets.specs.Search.{count, any, bit}
use Rattle.octets.proofs.Booleans.{by-test, and_left, and_right}
use Rattle.octets.proofs.Lists.{same_refl, same-eq, take-bytes}
use Rattle.octets.proofs.Counting.{count-append, count-member, any_some, member-map}
use Rattle.encoding.specs.Hex.{hex_text, unhex}
use Rattle.encoding.proofs.Hex.{hex-round}
use Rattle.form.specs.Content.{form_value}
use Rattle.client_registry.specs.Registry.{Client, clients_of}
use Rattle.token_store.specs.Store.{holds}
use Rattle.protocol.specs.Outcomes.{Handed}
use Rattle.history.specs.Calls.{Call, authorization, token, revocation, check, handed_to, WellTyped, AllWellTyped, Result, Event, store_after_all, events, fresh_store}
use Rattle.history.specs.Contents.{Sort, code, spent, access, refresh, Issue, no_issue, is_a, is_live_at, is_spent_by, is_of, origin_of, value_of, is_exchange, is_refresh, is_credentials, asked_or, access_in, token_issue, code_issue, exchange_issues, refresh_issues, own_issue, issued_by, is_revocable, goes_with, is_revoked_by, first_twenty, twenties, standing_after, Contents, nothing_yet, with_event, with_events, NeverTwice}
use Rattle.history.specs.Claim.{may_pass}
use Rattle.history.specs.Revoked.{GotFrom, RevokedForGood}
use Rattle.history.specs.Server.{ours}
use Rattle.history.proofs.HeldIssues.{Held, as_slot, as_issue, used}
use Rattle.history.proofs.AllCalls.{seen-event, Kept, kept-all}
use Rattle.history.proofs.Meaning.{issued_in, ended_in, entered, random-access}
use Rattle.history.proofs.Theorem.{demand3}

-- ---- what stands as an access token of a text

abbrev is_access_of : List ℕ → Issue → Bool
is_access_of text x = is_a access x && is_of text x

-- each has Q
abbrev Those : (Issue → Type 0) → List ℕ → List Issue → Type 0
Those Q text standing = (x : Issue) → Memᴰ x standing → is_access_of text x ≡ true → Q x

none_any : {A : Type 0} (p : A → Bool) (l : List A) → ((x : A) → Memᴰ x l → p x ≡ true → ⊥) → any p l ≡ false
unfolding any
none_any p [] none = refl
none_any p (x ∷ xs) none =
    ap₂ ◌||◌ (by-test (p x) (λ e. absurd (none x (mathlib.Core.List.Memᴰ.head refl) e)) (λ e. e)) (none_any p xs (λ y m e. none y (mathlib.Core.List.Memᴰ.tail m) e))

access-unspent : (x : Issue) → is_a access x ≡ true → is_a spent x ≡ false
access-unspent x = by x.sort
  where
    by : (s : Sort) → elim s [ code ↦ false | spent ↦ false | access ↦ true | refresh ↦ false ] ≡ true
        → elim s [ code ↦ false | spent ↦ true | access ↦ false | refresh ↦ false ] ≡ false
    by code e = refl
    by spent e = absurd (false≢true e)
    by access e = refl
    by refresh e = refl

-- bytes are told by their text
text-tells : (h k : List ℕ) → Bytes h → Bytes k → hex_text h ≡ hex_text k → h ≡ k
text-tells h k a b e = sym (hex-round h a) ∙ ap unhex e ∙ hex-round k b

-- ---- the access token that a call issued

only_one : {x y : Issue} → (x ≡ y) ⊎ Memᴰ x [] → x ≡ y
only_one (inl e) = e
only_one (inr m) = absurd (mathlib.Core.List.Memᴰ.not-nil m)

module _ (clients : List Client) (t : ℕ) (standing : List Issue) (header body : List ℕ) (handed : Handed) (r : Result) where
  -- on the code shown, on the refresh token shown, or a client's for itself
  abbrev on_code : Issue
  on_code = let o = origin_of code (value_of body (bytes "code")) standing in token_issue access t (access_in r) o o.text o.scope

  abbrev on_refresh : Issue
  on_refresh =
      let o = origin_of refresh (value_of body (bytes "refresh_token")) standing in
      token_issue access t (access_in r) o o.origin (asked_or (form_value body (bytes "scope")) o.scope)

  abbrev access_issue : Issue
  access_issue = cond (is_exchange body) on_code (cond (is_refresh body) on_refresh (own_issue clients t header body r))

  access-only : (x : Issue) → Memᴰ x (issued_by clients t standing (token header body handed) r) → is_a access x ≡ true → x ≡ access_issue
  unfolding issued_by exchange_issues refresh_issues
  access-only x = by (is_exchange body) (is_refresh body) (is_credentials body)
    where
      own : Issue
      own = own_issue clients t header body r

      behind-refresh : {y z : Issue} → is_a access y ≡ false → is_a access x ≡ true → (x ≡ y) ⊎ Memᴰ x (z ∷ []) → x ≡ z
      behind-refresh other is (inl e) = absurd (false≢true (sym other ∙ ap (is_a access) (sym e) ∙ is))
      behind-refresh other is (inr m) = only_one (mathlib.Core.List.Memᴰ.cases_cons m)

      by : (a b c : Bool)
          → Memᴰ x (cond a (exchange_issues t standing body r) (cond b (refresh_issues t standing body r) (cond c (own ∷ []) [])))
          → is_a access x ≡ true → x ≡ cond a on_code (cond b on_refresh own)
      by true b c m is = behind-refresh refl is (mathlib.Core.List.Memᴰ.cases_cons m)
      by false true c m is = only_one (mathlib.Core.List.Memᴰ.cases_cons m)
      by false false true m is = only_one (mathlib.Core.List.Memᴰ.cases_cons m)
      by false false false m is = absurd (mathlib.Core.List.Memᴰ.not-nil m)

  access-shown : access_issue.text ≡ access_in r
  unfolding own_issue
  access-shown = by (is_exchange body) (is_refresh body)
    where
      by : (a b : Bool) → (cond a on_code (cond b on_refresh (own_issue clients t header body r))).text ≡ access_in r
      by true b = refl
      by false true = refl
      by false false = refl

-- what is in a list unless it is left out
cond-in : {x : Issue} (b : Bool) (l : List Issue) → Memᴰ x (cond b l []) → (b ≡ true) × Memᴰ x l
cond-in true l m = (refl, m)
cond-in false l m = absurd (mathlib.Core.List.Memᴰ.not-nil m)

-- the access token that a call issues, if it issues one
unfoldable the_access : List Client → ℕ → List Issue → Call → Result → Issue
the_access clients t standing (authorization query decision farm handed) r = no_issue
the_access clients t standing (token header body handed) r = access_issue clients t standing header body handed r
the_access clients t standing (revocation header body clock output) r = no_issue
the_access clients t standing (check presented clock) r = no_issue

module _ (registry : List ℕ) (small : Bytes registry) where
  abbrev clients : List Client
  clients = clients_of registry

  -- ---- after one call

  module _ (b : List ℕ) (k : Contents) where
    abbrev event : Call → Event
    event c = record { call = c; result = ours registry b c }

    abbrev time_of : Call → ℕ
    time_of c = max (handed_to c).clock k.highest

    abbrev after : Call → Contents
    after c = with_event clients (event c) k

    -- an access token that it issued: its text is twenty random bytes that came with the call
    record Fresh (c : Call) (x : Issue) : Type 0 where
      fit : (ours registry b c).unfit ≡ false
      the : x ≡ the_access clients (time_of c) k.standing c (ours registry b c)
      first : List ℕ
      octets : Bytes first
      text : x.text ≡ hex_text first
      came : 1 ≤ count (same first) (twenties c)

    abbrev issues : Call → List Issue
    issues c = issued_by clients (time_of c) k.standing c (ours registry b c)

    -- what it issued, where it was seen and granted
    issued-by : (c : Call) {x : Issue} → Memᴰ x (issued_in clients k (event c))
        → ((ours registry b c).unfit ≡ false) × ((ours registry b c).granted ≡ true) × Memᴰ x (issues c)
    unfolding issued_in
    issued-by c m =
        let r = ours registry b c in
        let in-it = cond-in (not r.unfit && r.granted) (issues c) m in
        (not-true r.unfit (and_left (not r.unfit) r.granted in-it.0), and_right (not r.unfit) r.granted in-it.0, in-it.1)

    fresh-by : (c : Call) → WellTyped c → (x : Issue) → (ours registry b c).unfit ≡ false → (ours registry b c).granted ≡ true → Memᴰ x (issues c)
        → is_a access x ≡ true → Fresh c x
    unfolding issued_by code_issue the_access twenties count
    fresh-by (authorization query decision farm handed) typed x fit granted m is =
        let c = authorization query decision farm handed in
        let e : x ≡ code_issue clients (time_of c) query farm (ours registry b c) = only_one (mathlib.Core.List.Memᴰ.cases_cons m) in
        absurd (false≢true (ap (is_a access) (sym e) ∙ is))
    fresh-by (token header body handed) typed x fit granted m is =
        let c = token header body handed in
        let r = ours registry b c in
        let the = access-only clients (time_of c) k.standing header body handed r x m is in
        let first = first_twenty handed.random in
        record {
          fit = fit;
          the = the;
          first = first;
          octets = take-bytes 20 handed.random typed;
          text =
              ap (λ (y : Issue). y.text) the ∙ access-shown clients (time_of c) k.standing header body handed r
              ∙ random-access registry b header body handed fit granted;
          came = omega (arith, ap bit (same_refl first));
        }
    fresh-by (revocation header body clock output) typed x fit granted m is = absurd (mathlib.Core.List.Memᴰ.not-nil m)
    fresh-by (check presented clock) typed x fit granted m is = absurd (mathlib.Core.List.Memᴰ.not-nil m)

    issued-fresh : (c : Call) → WellTyped c → (x : Issue) → Memᴰ x (issued_in clients k (event c)) → is_a access x ≡ true → Fresh c x
    issued-fresh c typed x m is = let i = issued-by c m in fresh-by c typed x i.0 i.1 i.2 is

    -- the random bytes of a call that is seen come to the others
    randoms-after : (c : Call) → (ours registry b c).unfit ≡ false → (after c).randoms ≡ twenties c ++ k.randoms
    randoms-after c fit = ap (λ (x : Contents). x.randoms) (seen-event registry small (event c) k fit)

    more-after : (c : Call) (h : List ℕ) → count (same h) k.randoms ≤ count (same h) (after c).randoms
    unfolding with_event
    more-after c h = by (ours registry b c).unfit
      where
        by : (unfit : Bool)
            → count (same h) k.randoms
            ≤ count (same h)
            (cond unfit k (record { highest = time_of c; standing = standing_after clients (time_of c) k.standing c (ours registry b c); randoms = twenties c ++ k.randoms })).randoms
        by true = omega arith
        by false = omega (arith, count-append (same h) (twenties c) k.randoms)

    module _ (h : List ℕ) (octets : Bytes h) (c : Call) (typed : WellTyped c) (never : NeverTwice (after c).randoms) where
      -- twenty bytes that came before are no access token's that a call issues
      not-again : 1 ≤ count (same h) k.randoms → (x : Issue) → Memᴰ x (issued_in clients k (event c)) → is_access_of (hex_text h) x ≡ true → ⊥
      not-again came x m is =
          let f = issued-fresh c typed x m (and_left (is_a access x) (is_of (hex_text h) x) is) in
          let shown = same-eq (hex_text h) x.text (and_right (is_a access x) (is_of (hex_text h) x) is) in
          let it-is : h ≡ f.first = text-tells h f.first octets f.octets (shown ∙ f.text) in
          let twice = rw (randoms-after c f.fit) at (never h) in
          (omega (arith, twice, count-append (same h) (twenties c) k.randoms, came, rw (sym it-is) at f.came))

      -- so that what stands as an access token of their text stood before
      later-event : (Q : Issue → Type 0) → 1 ≤ count (same h) k.randoms → Those Q (hex_text h) k.standing → Those Q (hex_text h) (after c).standing
      later-event Q came those x m is = by ((entered clients x (access-unspent x (and_left (is_a access x) (is_of (hex_text h) x) is)) k (event c)).0 m)
        where
          by : Memᴰ x (issued_in clients k (event c)) ⊎ (Memᴰ x k.standing × (ended_in clients k (event c) x ≡ false)) → Q x
          by (inl i) = absurd (not-again came x i is)
          by (inr p) = those x p.0 is

      -- nor did they stand as one before the call that they came with
      not-before : Kept clients b k → 1 ≤ count (same h) (twenties c) → (ours registry b c).unfit ≡ false → (x : Issue) → Memᴰ x k.standing
          → is_of (hex_text h) x ≡ true → ⊥
      not-before v came fit x m is =
          member-map (as_issue clients) (λ y. is_of (hex_text h) y ≡ true → ⊥) v.held held-once x
          (subst (λ (l : List Issue). Memᴰ x l) v.issues m) is
        where
          twice : count (same h) (twenties c) + count (same h) k.randoms ≤ 1
          twice = omega (arith, rw (randoms-after c fit) at (never h), count-append (same h) (twenties c) k.randoms)

          earlier : NeverTwice k.randoms
          earlier j = omega (arith, never j, more-after c j)

          held-once : (e : Held) → Memᴰ e v.held → is_of (hex_text h) (as_issue clients e) ≡ true → ⊥
          held-once e i shown =
              let it-is = text-tells h e.handle.octets octets e.handle.small (same-eq _ _ shown) in
              let holds-it : holds h (as_slot e) ≡ true = ap₂ ◌&&◌ (used e) (ap (same h) (sym it-is) ∙ same_refl h) in
              omega (arith, twice, came, (v.inv earlier).in_issues h, count-member (λ y. holds h (as_slot y)) e i holds-it)

    -- after the call that issued a, what stands as an access token of its text is a
    issued-only : Kept clients b k → (c : Call) → WellTyped c → NeverTwice (after c).randoms → (a : Issue) → Memᴰ a (issued_in clients k (event c))
        → is_a access a ≡ true → Those (λ x. x ≡ a) a.text (after c).standing
    issued-only v c typed never a m is x in-it of-it =
        by ((entered clients x (access-unspent x (and_left (is_a access x) (is_of a.text x) of-it)) k (event c)).0 in-it)
      where
        f : Fresh c a
        f = issued-fresh c typed a m is

        by : Memᴰ x (issued_in clients k (event c)) ⊎ (Memᴰ x k.standing × (ended_in clients k (event c) x ≡ false)) → x ≡ a
        by (inl i) = (issued-fresh c typed x i (and_left (is_a access x) (is_of a.text x) of-it)).the ∙ sym f.the
        by (inr p) =
            absurd (not-before f.first f.octets c typed never v f.came f.fit x p.0
            (subst (λ (text : List ℕ). is_of text x ≡ true) f.text (and_right (is_a access x) (is_of a.text x) of-it)))

    -- a revocation of a refresh token of its origin ends it
    revoked-none : (header body : List ℕ) (clock : ℕ) (output : List ℕ) → let c = revocation header body clock output in
        (ours registry b c).unfit ≡ false → (ours registry b c).granted ≡ true
        → (a e : Issue) → Memᴰ e k.standing → is_revocable clients (time_of c) header body e ≡ true → is_a refresh e ≡ true
        → e.origin ≡ a.origin → is_a access a ≡ true
        → Those (λ x. x ≡ a) a.text k.standing → Those (λ x. ⊥) a.text (after c).standing
    unfolding issued_by ended_in is_spent_by is_revoked_by handed_to
    revoked-none header body clock output fit granted a e stands own is-refresh origin is those x in-it of-it =
        by ((entered clients x (access-unspent x (and_left (is_a access x) (is_of a.text x) of-it)) k (event c)).0 in-it)
      where
        c : Call
        c = revocation header body clock output

        goes : goes_with e a ≡ true
        goes =
            rw (is-refresh, is, origin, same_refl a.origin) (or-true (is_of e.text a))

        ends : any (λ y. is_revocable clients (time_of c) header body y && goes_with y a) k.standing ≡ true
        ends = any_some _ k.standing (count-member (λ y. is_revocable clients (time_of c) header body y && goes_with y a) e stands (ap₂ ◌&&◌ own goes))

        by : Memᴰ x (issued_in clients k (event c)) ⊎ (Memᴰ x k.standing × (ended_in clients k (event c) x ≡ false)) → ⊥
        by (inl i) = absurd (mathlib.Core.List.Memᴰ.not-nil (issued-by c i).2)
        by (inr p) =
            let still : any (λ y. is_revocable clients (time_of c) header body y && goes_with y a) k.standing ≡ false =
            subst (λ (y : Issue). any (λ z. is_revocable clients (time_of c) header body z && goes_with z y) k.standing ≡ false) (those x p.0 of-it)
            (rw (fit, granted) at p.1)
            in
            absurd (true≢false (sym ends ∙ still))

  -- ---- after a list of calls

  abbrev contents : List ℕ → Contents → List Call → Contents
  contents b k cs = with_events clients k (events ours registry b cs)

  more-later : (b : List ℕ) (k : Contents) (cs : List Call) (h : List ℕ) → count (same h) k.randoms ≤ count (same h) (contents b k cs).randoms
  unfolding events with_events
  more-later b k [] h = omega arith
  more-later b k (c ∷ cs) h = omega (arith, more-after b k c h, more-later (ours registry b c).store (after b k c) cs h)

  never-before : (b : List ℕ) (k : Contents) (cs : List Call) → NeverTwice (contents b k cs).randoms → NeverTwice k.randoms
  never-before b k cs never h = omega (arith, never h, more-later b k cs h)

  later-calls : (Q : Issue → Type 0) (h : List ℕ) → Bytes h → (b : List ℕ) (k : Contents) (cs : List Call) → AllWellTyped cs → NeverTwice (contents b k cs).randoms
      → 1 ≤ count (same h) k.randoms → Those Q (hex_text h) k.standing → Those Q (hex_text h) (contents b k cs).standing
  unfolding events with_events AllWellTyped
  later-calls Q h octets b k [] typed never came those = those
  later-calls Q h octets b k (c ∷ cs) typed never came those =
      let s = (ours registry b c).store in
      let here = never-before s (after b k c) cs never in
      later-calls Q h octets s (after b k c) cs typed.1 never (omega (arith, came, more-after b k c h))
      (later-event b k h octets c typed.0 here Q came those)

  -- ---- lists of calls, one behind the other

  store-behind : (b : List ℕ) (cs ds : List Call) → store_after_all ours registry b (cs ++ ds) ≡ store_after_all ours registry (store_after_all ours registry b cs) ds
  unfolding store_after_all
  store-behind b [] ds = refl
  store-behind b (c ∷ cs) ds = store-behind (ours registry b c).store cs ds

  contents-behind : (b : List ℕ) (k : Contents) (cs ds : List Call)
      → contents b k (cs ++ ds) ≡ contents (store_after_all ours registry b cs) (contents b k cs) ds
  unfolding store_after_all events with_events
  contents-behind b k [] ds = refl
  contents-behind b k (c ∷ cs) ds = contents-behind (ours registry b c).store (after b k c) cs ds

typed-parts : (cs ds : List Call) → AllWellTyped (cs ++ ds) → AllWellTyped cs × AllWellTyped ds
unfolding AllWellTyped
typed-parts [] ds typed = (tt, typed)
typed-parts (c ∷ cs) ds typed = let rest = typed-parts cs ds typed.1 in ((typed.0, rest.0), rest.1)

-- ---- the claim

module _ (registry : List ℕ) (small : Bytes registry) where
  -- what some calls contain, and the store that they leave
  abbrev contained : List Call → Contents
  contained cs = contents registry small fresh_store nothing_yet cs

  abbrev left : List Call → List ℕ
  left cs = store_after_all ours registry fresh_store cs

  abbrev behind : List Call → Call → Contents
  behind cs c = after registry small (left cs) (contained cs) c

  -- one call behind some, and others behind it
  contained-around : (cs : List Call) (c : Call) (ds : List Call)
      → contained (cs ++ c ∷ ds) ≡ contents registry small (ours registry (left cs) c).store (behind cs c) ds
  unfolding events with_events
  contained-around cs c ds = contents-behind registry small fresh_store nothing_yet cs (c ∷ ds)

  module _ (cs : List Call) (c : Call) (ds : List Call) (never : NeverTwice (contained (cs ++ c ∷ ds)).randoms) where
    never-there : NeverTwice (contents registry small (ours registry (left cs) c).store (behind cs c) ds).randoms
    never-there = subst (λ (k : Contents). NeverTwice k.randoms) (contained-around cs c ds) never

    never-then : NeverTwice (behind cs c).randoms
    never-then = never-before registry small (ours registry (left cs) c).store (behind cs c) ds never-there

    -- what holds of the access tokens of a text behind the call holds behind the others
    those-behind : (Q : Issue → Type 0) (h : List ℕ) → Bytes h → AllWellTyped ds → 1 ≤ count (same h) (behind cs c).randoms
        → Those Q (hex_text h) (behind cs c).standing → Those Q (hex_text h) (contained (cs ++ c ∷ ds)).standing
    those-behind Q h octets typed came those =
        subst (λ (k : Contents). Those Q (hex_text h) k.standing) (sym (contained-around cs c ds))
        (later-calls registry small Q h octets (ours registry (left cs) c).store (behind cs c) ds typed never-there came those)

  -- from the call that issued it on, an access token is the only one of its text, which came as random bytes
  record Single (a : Issue) (cs : List Call) : Type 0 where
    first : List ℕ
    octets : Bytes first
    text : a.text ≡ hex_text first
    came : 1 ≤ count (same first) (contained cs).randoms
    only : Those (λ x. x ≡ a) (hex_text first) (contained cs).standing

  single : (before : List Call) (c : Call) (rest : List Call) → (ours registry (left before) c).unfit ≡ false → (ours registry (left before) c).granted ≡ true
      → (a : Issue) → Memᴰ a (issues registry small (left before) (contained before) c) → is_a access a ≡ true
      → AllWellTyped (before ++ c ∷ rest) → NeverTwice (contained (before ++ c ∷ rest)).randoms → Single a (before ++ c ∷ rest)
  unfolding issued_in AllWellTyped
  single before c rest fit granted a issued is typed never =
      let b = left before in
      let k = contained before in
      let parts = typed-parts before (c ∷ rest) typed in
      let there : Memᴰ a (issued_in (clients_of registry) k (event registry small b k c)) =
      subst (λ (seen : Bool). Memᴰ a (cond seen (issues registry small b k c) [])) (sym (ap₂ (λ (x y : Bool). not x && y) fit granted)) issued
      in
      let f = issued-fresh registry small b k c parts.1.0 a there is in
      let came : 1 ≤ count (same f.first) (behind before c).randoms =
      omega (
        arith,
        f.came,
        ap (λ (l : List (List ℕ)). count (same f.first) l) (randoms-after registry small b k c fit),
        count-append (same f.first) (twenties c) k.randoms,
      )
      in
      let kept = kept-all registry small before parts.0 in
      let only = issued-only registry small b k kept c parts.1.0 (never-then before c rest never) a there is in
      record {
        first = f.first;
        octets = f.octets;
        text = f.text;
        came =
            omega (
              arith,
              came,
              more-later registry small (ours registry b c).store (behind before c) rest f.first,
              ap (λ (x : Contents). count (same f.first) x.randoms) (contained-around before c rest),
            );
        only =
            those-behind before c rest never (λ x. x ≡ a) f.first f.octets parts.1.1 came
            (subst (λ (text : List ℕ). Those (λ x. x ≡ a) text (behind before c).standing) f.text only);
      }

  got-single : (cs : List Call) {origin text : List ℕ} (got : GotFrom ours registry cs origin text) → AllWellTyped cs
      → NeverTwice (contained cs).randoms → Single got.issue cs
  got-single cs got =
      subst (λ (l : List Call). AllWellTyped l → NeverTwice (contained l).randoms → Single got.issue l) (sym got.among)
      (single got.before got.call got.behind got.seen got.granted got.issue got.issued got.is_access)

pub revoked-for-good : (registry : List ℕ) → Bytes registry → RevokedForGood ours registry
unfolding twenties may_pass handed_to AllWellTyped
revoked-for-good registry small calls origin header body clock output r text got later typed now judged =
    (demand3 registry small all typed).passes text now judged
    ∙ none_any _ (contained registry small all).standing
    (λ x m e. none_left x m (subst (λ (l : List ℕ). is_access_of l x ≡ true) (sym shown) (and_right (is_live_at _ x) (is_access_of text x) e)))
  where
    revokes : Call
    revokes = revocation header body clock output

    all : List Call
    all = calls ++ revokes ∷ later

    parts : AllWellTyped calls × AllWellTyped (revokes ∷ later)
    parts = typed-parts calls (revokes ∷ later) typed

    b : List ℕ
    b = left registry small calls

    k : Contents
    k = contained registry small calls

    -- no random bytes came twice up to the revocation
    never : NeverTwice k.randoms
    never h = omega (arith, never-then registry small calls revokes later judged.once h, more-after registry small b k revokes h)

    it : Single registry small got.issue calls
    it = got-single registry small calls got parts.0 never

    shown : hex_text it.first ≡ text
    shown = sym it.text ∙ got.shown

    -- the revocation ends the only one
    none_then : Those (λ x. ⊥) got.issue.text (behind registry small calls revokes).standing
    none_then =
        revoked-none registry small b k header body clock output r.seen r.done got.issue r.token r.stands r.own r.is_refresh
        (r.from ∙ sym got.from) got.is_access (subst (λ (l : List ℕ). Those (λ x. x ≡ got.issue) l k.standing) (sym it.text) it.only)

    -- and none comes later
    none_left : Those (λ x. ⊥) (hex_text it.first) (contained registry small all).standing
    none_left =
        those-behind registry small calls revokes later judged.once (λ x. ⊥) it.first it.octets parts.1.1
        (omega (arith, it.came, more-after registry small b k revokes it.first))
        (subst (λ (l : List ℕ). Those (λ x. ⊥) l (behind registry small calls revokes).standing) it.text none_then)
