-- Demand 3 on some calls, by the theorem, from raw bytes: the sample registry, the fresh store of zero bytes, and the calls of Examples.
-- So every clause of the claim is used, and its premises are met; by what the calls contain, each says what our server does.
--
-- In order: what the claim speaks of (`judged`); its clauses, by what the calls contain; every case of
-- Examples (`decided`), which hold each 'exactly when' both ways; what is named, written and cleared, and a refused try, after calls of every
-- kind; a token that is gone for good (`gone-for-good`).
-- Assumes nothing.
use mathlib.Core.Path.{◌≡◌, refl, sym, ap, ap₂, ◌∙◌, subst}
use mathlib.Core.Bool.{Bool, true, false, cond, ◌&&◌, ◌||◌, beq, false≢true}
use mathlib.Core.List.{List, [], ◌∷◌, ◌++◌, Memᴰ}
use Prim.Native.Nat.{ℕ, ◌+◌, ◌*◌, ◌-◌, ◌^◌, ◌<◌, max}
use borrow.Author.Tests.{ltb-true}
use lib.Dec.{ltb, lit<}
use lib.Seq.{sets}
use lib.ListN.{length, take, replicate, get_or}
use Rattle.octets.specs.Text.{bytes}
use Rattle.octets.specs.Lists.{part, every}
use Rattle.octets.specs.Search.{keep}
use Rattle.octets.proofs.Booleans.{and_left, and_right, to-T, of-T-equal}
use Rattle.form.specs.Content.{form_value}
use Rattle.client_registry.specs.Registry.{Client, clients_of, distinct}
use Rattle.client_registry.specs.Lookup.{number_of, client_at}
use Rattle.client_registry.specs.Sample.{sample_clients, sample_registry}
use Rattle.token_store.specs.Store.{encode as encode_store, fresh}
use Rattle.protocol.specs.Authorization.{location, code_parameter}
use Rattle.protocol.specs.Token.{token_reply, refresh_member}
use Rattle.protocol.specs.Outcomes.{Handed, without_random}
use Rattle.protocol.proofs.Computing.{text_definitions, registry_definitions, decision_definitions, authorization_definitions, client_definitions, token_definitions}
use Rattle.protocol.proofs.Cases.{challenge}
use Rattle.protocol.proofs.Starred.{count_up, rfc_query}
use Rattle.history.specs.Calls.{Call, authorization, token, revocation, check, WellTyped, AllWellTyped, Result, store_after_all, events, fresh_store, handed_to}
use Rattle.history.specs.Contents.{code, access, refresh, Issue, is_a, is_live_at, is_of, origin_of, value_of, is_exchange, is_refresh, is_credentials, asked_or, caller, is_admitted, is_admitted_to_revoke, is_revocable, issued_by, is_second_showing, code_shown, first_twenty, last_twenty, Contents, nothing_yet, with_events, twenties}
use Rattle.history.specs.Slots.{slots_in_all, holds_token_from}
use Rattle.history.specs.Claim.{may_exchange, may_refresh, may_have_own, may_revoke, is_cleared, may_pass, Answers, contained, next, Judged, Asks, Demand3}
use Rattle.history.specs.Revoked.{GotFrom, IsRevoked}
use Rattle.history.specs.Server.{ours}
use Rattle.history.proofs.Computing.{claim_definitions}
use Rattle.history.proofs.SoundStores.{sound-fresh}
use Rattle.history.proofs.AnyCall.{unfit_to}
use Rattle.history.proofs.AllCalls.{fresh-bytes}
use Rattle.history.proofs.Theorem.{demand3, credentials-yield, revocations}
use Rattle.history.proofs.ForGood.{revoked-for-good}
use Rattle.history.proofs.CallsOnRecords.{result_on, left_by_all, events_on, is_fitting, Replayed, replay, replay-result, replay-fit}
pub use Rattle.history.proofs.Sample.{sample-clients, sample-bytes}
use Rattle.history.proofs.Sample.{sample-fit, tested-bytes, distinct-never}
use Rattle.history.proofs.Examples.{exchange_visit, in_exchange_visit, gone, revoke_at, revoking, barn_revoking, farewell, in_farewell, barn_try, in_visit, asking, exchange_at, authorize_at, code_text, less_text, refresh_text, again_text, barn_query, barn_access, handed_at, header, coded_header, exchange_of, repeating, token_at, refresh_for, visit, day, evening, leak, Case, Cases, cases, yields, may, is_typed, is_asked, is_judged, left_in, contained_in, in_day, in_evening, in_leak, claim_agrees, agrees_on, agrees, computed, access_text, barn_code, barn_text, barn_token, code_until, redirect, token_until, own_for, own_text, pumps, own_until, in_pumps, call_definitions}

-- ---- what the claim speaks of

tested-call : (c : Call) → is_typed c ≡ true → WellTyped c
unfolding is_typed
tested-call (authorization query decision farm handed) e =
    let f = ltb farm (2 ^ 32) in
    let r = every (λ b. ltb b 256) handed.random in
    (ltb-true farm (2 ^ 32) (and_left f r e), tested-bytes handed.random (and_right f r e))
tested-call (token h b handed) e = tested-bytes handed.random e
tested-call (revocation h b clock output) e = tt
tested-call (check presented clock) e = tt

pub tested-calls : (cs : List Call) → every is_typed cs ≡ true → AllWellTyped cs
unfolding AllWellTyped every
tested-calls [] e = tt
tested-calls (c ∷ cs) e =
    (tested-call c (and_left (is_typed c) (every is_typed cs) e), tested-calls cs (and_right (is_typed c) (every is_typed cs) e))

-- calls, and what they contain, which is computed over records
pub record Run : Type 0 where
  pub calls : List Call
  pub typed : every is_typed calls ≡ true
  pub contents : Contents
  pub contains : contained_in calls ≡ contents

module _ (run : Run) where
  abbrev cs : List Call
  cs = run.calls

  abbrev k : Contents
  k = run.contents

  pub typed : AllWellTyped cs
  typed = tested-calls cs run.typed

  replayed : Replayed sample_registry sample-bytes sample-fit fresh cs (keep is_fitting cs)
  replayed = replay sample_registry sample-bytes sample-fit fresh (sound-fresh _) cs typed

  -- what comes of the next call
  abbrev after : Call → Result
  after c = next ours sample_registry cs c

  pub contents-are : contained ours sample_registry cs ≡ k
  unfolding contained_in
  contents-are =
      ap (λ (b : List ℕ). with_events (clients_of sample_registry) nothing_yet (events ours sample_registry b cs)) fresh-bytes
      ∙ replayed.same-contents nothing_yet
      ∙ ap (λ (clients : List Client). with_events clients nothing_yet (events_on clients fresh (keep is_fitting cs))) sample-clients
      ∙ run.contains

  pub result-is : (c : Call) → is_fitting c ≡ true → after c ≡ result_on sample_clients (left_in cs) c
  unfolding left_in
  result-is c e =
      ap (λ (b : List ℕ). ours sample_registry (store_after_all ours sample_registry b cs) c) fresh-bytes
      ∙ replay-result sample_registry sample-bytes sample-fit fresh cs (keep is_fitting cs) replayed c e
      ∙ ap (λ (clients : List Client). result_on clients (left_by_all clients fresh (keep is_fitting cs)) c) sample-clients

  pub store_is : store_after_all ours sample_registry fresh_store cs ≡ encode_store (left_in cs)
  unfolding left_in
  store_is =
      ap (λ (b : List ℕ). store_after_all ours sample_registry b cs) fresh-bytes
      ∙ replayed.same_store
      ∙ ap (λ (clients : List Client). encode_store (left_by_all clients fresh (keep is_fitting cs))) sample-clients

  claims : Demand3 ours sample_registry cs
  claims = demand3 sample_registry sample-bytes cs typed

  module _ (c : Call) (j : is_judged k c ≡ true) where
    pub judged : Judged ours sample_registry cs c
    unfolding is_judged
    judged =
        let new = distinct (twenties c ++ k.randoms) in
        let rest = and_right (is_typed c) (is_fitting c && new) j in
        record {
          fit =
              ap (λ (b : List ℕ). (ours sample_registry (store_after_all ours sample_registry b cs) c).unfit) fresh-bytes
              ∙ replay-fit sample_registry sample-bytes sample-fit fresh cs (keep is_fitting cs) replayed c
              (tested-call c (and_left (is_typed c) (is_fitting c && new) j)) (and_left (is_fitting c) new rest);
          once = rw contents-are (distinct-never _ (and_right (is_fitting c) new rest));
        }

  -- ---- the clauses, by what the calls contain

  module _ (h b : List ℕ) (handed : Handed) (a : is_asked (token h b handed) ≡ true) (j : is_judged k (token h b handed) ≡ true) where
    abbrev asks : Call
    asks = token h b handed

    abbrev is_grant_type : Bool
    is_grant_type = is_exchange b || (is_refresh b || is_credentials b)

    pub well-asked : Asks ours sample_registry cs h b handed
    unfolding is_asked
    well-asked = record {
      judged = judged asks j;
      admitted =
          ap (λ (clients : List Client). is_admitted clients h b) sample-clients ∙ and_left (is_admitted sample_clients h b) is_grant_type a;
    }

    asked-other : is_exchange b ≡ false → (is_refresh b || is_credentials b) ≡ true
    unfolding is_asked
    asked-other e = ap (λ (x : Bool). x || (is_refresh b || is_credentials b)) (sym e) ∙ and_right (is_admitted sample_clients h b) is_grant_type a

    pub by-exchanges : is_exchange b ≡ true
        → (after asks).granted ≡ may_exchange sample_clients (max handed.clock k.highest) k.standing h b
    by-exchanges e =
        claims.exchanges h b handed well-asked e
        ∙ ap (λ (c : Contents). may_exchange (clients_of sample_registry) (max handed.clock c.highest) c.standing h b) contents-are
        ∙ ap (λ (clients : List Client). may_exchange clients (max handed.clock k.highest) k.standing h b) sample-clients

    pub by-refreshes : is_refresh b ≡ true
        → (after asks).granted ≡ may_refresh sample_clients (max handed.clock k.highest) k.standing h b
    by-refreshes e =
        claims.refreshes h b handed well-asked e
        ∙ ap (λ (c : Contents). may_refresh (clients_of sample_registry) (max handed.clock c.highest) c.standing h b) contents-are
        ∙ ap (λ (clients : List Client). may_refresh clients (max handed.clock k.highest) k.standing h b) sample-clients

    pub by-credentials : is_credentials b ≡ true
        → (after asks).granted ≡ may_have_own sample_clients (max handed.clock k.highest) k.standing h b
    by-credentials e =
        (credentials-yield sample_registry sample-bytes cs typed).yields h b handed well-asked e
        ∙ ap (λ (c : Contents). may_have_own (clients_of sample_registry) (max handed.clock c.highest) c.standing h b) contents-are
        ∙ ap (λ (clients : List Client). may_have_own clients (max handed.clock k.highest) k.standing h b) sample-clients

    by-exchange-replies : is_exchange b ≡ true → (after asks).granted ≡ true
        → let scope = (origin_of code (value_of b (bytes "code")) k.standing).scope in
        Answers handed (after asks) (token_reply (first_twenty handed.random) (refresh_member (last_twenty handed.random)) scope)
    by-exchange-replies e granted =
        let text : Contents → List ℕ = λ c.
        token_reply (first_twenty handed.random) (refresh_member (last_twenty handed.random))
        (origin_of code (value_of b (bytes "code")) c.standing).scope
        in
        subst (λ (c : Contents). Answers handed (after asks) (text c)) contents-are (claims.exchange_replies h b handed well-asked e granted)

    by-refresh-replies : is_refresh b ≡ true → (after asks).granted ≡ true
        → let scope = (origin_of refresh (value_of b (bytes "refresh_token")) k.standing).scope in
        Answers handed (after asks) (token_reply (first_twenty handed.random) [] (asked_or (form_value b (bytes "scope")) scope))
    by-refresh-replies e granted =
        let scope : Contents → ℕ = λ c.
        asked_or (form_value b (bytes "scope")) (origin_of refresh (value_of b (bytes "refresh_token")) c.standing).scope
        in
        subst (λ (c : Contents). Answers handed (after asks) (token_reply (first_twenty handed.random) [] (scope c))) contents-are
        (claims.refresh_replies h b handed well-asked e granted)

    by-credentials-replies : is_credentials b ≡ true → (after asks).granted ≡ true
        → let scope = asked_or (form_value b (bytes "scope")) (client_at sample_clients (caller sample_clients h b)).scope in
        Answers handed (after asks) (token_reply (first_twenty handed.random) [] scope)
    by-credentials-replies e granted =
        let scope : List Client → ℕ = λ clients. asked_or (form_value b (bytes "scope")) (client_at clients (caller clients h b)).scope in
        subst (λ (clients : List Client). Answers handed (after asks) (token_reply (first_twenty handed.random) [] (scope clients))) sample-clients
        (claims.credentials_replies h b handed well-asked e granted)

  pub by-revokes : (h b : List ℕ) (clock : ℕ) (output : List ℕ) → is_judged k (revocation h b clock output) ≡ true
      → (after (revocation h b clock output)).granted
      ≡ (is_admitted_to_revoke sample_clients h b && may_revoke sample_clients (max clock k.highest) k.standing h b)
  by-revokes h b clock output j =
      let done : List Client → Contents → Bool = λ clients c.
      is_admitted_to_revoke clients h b && may_revoke clients (max clock c.highest) c.standing h b
      in
      (revocations sample_registry sample-bytes cs typed).done h b clock output (judged (revocation h b clock output) j) ∙ ap₂ done sample-clients contents-are

  by-revocation-replies : (h b : List ℕ) (clock : ℕ) (output : List ℕ) → is_judged k (revocation h b clock output) ≡ true
      → (after (revocation h b clock output)).granted ≡ true → Answers (without_random clock output) (after (revocation h b clock output)) []
  by-revocation-replies h b clock output j granted =
      (revocations sample_registry sample-bytes cs typed).replies h b clock output (judged (revocation h b clock output) j) granted

  by-clears : (h b : List ℕ) (clock : ℕ) (output : List ℕ) → is_judged k (revocation h b clock output) ≡ true
      → (after (revocation h b clock output)).granted ≡ true → (i : ℕ) → i < slots_in_all
      → let slot = part (encode_store (left_in cs)) (8 + i * 67) 67 in
      part (after (revocation h b clock output)).store (8 + i * 67) 67
      ≡ cond (is_cleared sample_clients (max clock k.highest) k.standing h b slot) (replicate 67 0) slot
  by-clears h b clock output j granted i below =
      let Left : List Client → Contents → List ℕ → List ℕ = λ clients c left.
      let slot = part left (8 + i * 67) 67 in
      cond (is_cleared clients (max clock c.highest) c.standing h b slot) (replicate 67 0) slot
      in
      (revocations sample_registry sample-bytes cs typed).clears h b clock output (judged (revocation h b clock output) j) granted i below
      ∙ ap (λ (l : List ℕ). Left (clients_of sample_registry) (contained ours sample_registry cs) l) store_is
      ∙ ap₂ (λ (clients : List Client) (c : Contents). Left clients c (encode_store (left_in cs))) sample-clients contents-are

  pub by-passes : (presented : List ℕ) (clock : ℕ) → is_judged k (check presented clock) ≡ true
      → (after (check presented clock)).passed ≡ may_pass (max clock k.highest) k.standing presented
  by-passes presented clock j =
      claims.passes presented clock (judged (check presented clock) j)
      ∙ ap (λ (c : Contents). may_pass (max clock c.highest) c.standing presented) contents-are

  by_names : (presented : List ℕ) (clock : ℕ) → is_judged k (check presented clock) ≡ true → (e : Issue) → Memᴰ e k.standing
      → is_live_at (max clock k.highest) e ≡ true → (is_a access e && is_of presented e) ≡ true
      → (after (check presented clock)).named
      ≡ record { client = e.client; farm = e.farm; scope = e.scope; left = e.expiry - max clock k.highest }
  by_names presented clock j e =
      subst
      (λ (c : Contents). Memᴰ e c.standing → is_live_at (max clock c.highest) e ≡ true → (is_a access e && is_of presented e) ≡ true
      → (after (check presented clock)).named
      ≡ record { client = e.client; farm = e.farm; scope = e.scope; left = e.expiry - max clock c.highest })
      contents-are (claims.names presented clock (judged (check presented clock) j) e)

  by-locates : (query : List ℕ) (decision farm : ℕ) (handed : Handed) → let c = authorization query decision farm handed in
      is_judged k c ≡ true → (after c).granted ≡ true
      → let client = client_at sample_clients (number_of (value_of query (bytes "client_id")) sample_clients) in
      Answers handed (after c) (location client.redirect (code_parameter (first_twenty handed.random)) (form_value query (bytes "state")))
  by-locates query decision farm handed j granted =
      rw (← sample-clients) (claims.locates query decision farm handed (judged (authorization query decision farm handed) j) granted)

  by-spends-nothing : (c : Call) → is_judged k c ≡ true → (after c).granted ≡ false
      → (i : ℕ) → i < slots_in_all
      → let slot = part (encode_store (left_in cs)) (8 + i * 67) 67 in
      let second = is_second_showing sample_clients (max (handed_to c).clock k.highest) k.standing c in
      part (after c).store (8 + i * 67) 67 ≡ cond (second && holds_token_from (code_shown c) slot) (replicate 67 0) slot
  by-spends-nothing c j refused i below =
      let Left : Bool → List ℕ → List ℕ = λ second b.
      let slot = part b (8 + i * 67) 67 in cond (second && holds_token_from (code_shown c) slot) (replicate 67 0) slot
      in
      let second =
      ap (λ (clients : List Client). is_second_showing clients (max (handed_to c).clock (contained ours sample_registry cs).highest) (contained ours sample_registry cs).standing c) sample-clients
      ∙ ap (λ (x : Contents). is_second_showing sample_clients (max (handed_to c).clock x.highest) x.standing c) contents-are
      in
      claims.spends_nothing c (judged c j) refused i below ∙ ap₂ Left second store_is

  -- what the server does is what the claim asks
  pub claimed : (c : Call) → is_asked c ≡ true → is_judged k c ≡ true → yields c (after c) ≡ may k c
  unfolding is_asked yields may
  claimed (authorization query decision farm handed) a j = absurd (false≢true a)
  claimed (token h b handed) a j = by (is_exchange b) (is_refresh b) refl refl
    where
      t : ℕ
      t = max handed.clock k.highest

      by : (x y : Bool) → is_exchange b ≡ x → is_refresh b ≡ y
          → (after (token h b handed)).granted
          ≡ cond x (may_exchange sample_clients t k.standing h b)
          (cond y (may_refresh sample_clients t k.standing h b) (may_have_own sample_clients t k.standing h b))
      by true y e f = by-exchanges h b handed a j e
      by false true e f = by-refreshes h b handed a j f
      by false false e f = by-credentials h b handed a j (ap (λ (z : Bool). z || is_credentials b) (sym f) ∙ asked-other h b handed a j e)
  claimed (revocation h b clock output) a j = by-revokes h b clock output j
  claimed (check presented clock) a j = by-passes presented clock j

-- ---- every case of Examples

every-member : {A : Type 0} (p : A → Bool) {x : A} {xs : List A} → Memᴰ x xs → every p xs ≡ true → p x ≡ true
unfolding every
every-member p (Memᴰ.head {x = y} {xs = ys} q) e = ap p q ∙ and_left (p y) (every p ys) e
every-member p (Memᴰ.tail {x = y} {xs = ys} m) e = every-member p m (and_right (p y) (every p ys) e)

-- the server yields or lets pass where the paper says so, and nowhere else
pub decided : (l : Cases) → Memᴰ l cases → (k : Case) → Memᴰ k l.judged
    → yields k.call (next ours sample_registry l.calls k.call) ≡ k.paper
unfolding agrees agrees_on claim_agrees
decided l in-cases k in-judged =
    let cs = l.calls in
    let c = k.call in
    let all = every (agrees_on (left_in cs) (contained_in cs)) l.judged in
    let both = every-member agrees in-cases computed.cases-agree in
    let one = every-member (agrees_on (left_in cs) (contained_in cs)) in-judged (and_left all (every is_typed cs) both) in
    let said = beq (may (contained_in cs) c) k.paper in
    let claim = and_left (claim_agrees (contained_in cs) k) _ one in
    let rest = and_right (is_asked c) (is_judged (contained_in cs) c && said) claim in
    let run : Run = record { calls = cs; typed = and_right all (every is_typed cs) both; contents = contained_in cs; contains = refl } in
    claimed run c
    (and_left (is_asked c) (is_judged (contained_in cs) c && said) claim) (and_left (is_judged (contained_in cs) c) said rest)
    ∙ of-T-equal (may (contained_in cs) c) k.paper (to-T (and_right (is_judged (contained_in cs) c) said rest))

-- ---- what is named, written and cleared, and a refused try, after calls of every kind

-- the answer is what is written up to its length
abbrev pub text_in : Result → List ℕ
text_in r = take r.length r.output

answers-text : {handed : Handed} {r : Result} {text : List ℕ} → Answers handed r text → text_in r ≡ take (length text) (sets handed.output 0 text)
answers-text a = ap₂ (λ (n : ℕ) (l : List ℕ). take n l) a.ends a.written

abbrev after_day : Call → Result
after_day c = next ours sample_registry day c

-- the exchange of the visit's code at a clock: it is judged, and the claim says whether it yields
pub record ExchangeAt (clock : ℕ) (paper : Bool) : Type 0 where
  pub exchange : is_exchange (repeating code_text) ≡ true
  pub asked : is_asked (exchange_at clock) ≡ true
  pub judged : is_judged in_visit (exchange_at clock) ≡ true
  pub says : may_exchange sample_clients (max clock in_visit.highest) in_visit.standing header (repeating code_text) ≡ paper

-- a client's request for itself after the visit, likewise
pub record OwnAsked (h b : List ℕ) (paper : Bool) : Type 0 where
  pub credentials : is_credentials b ≡ true
  pub asked : is_asked (asking h b 1510) ≡ true
  pub judged : is_judged in_visit (asking h b 1510) ≡ true
  pub says : may_have_own sample_clients (max 1510 in_visit.highest) in_visit.standing h b ≡ paper

-- a revocation after calls that contain k, likewise
pub record RevocationOf (k : Contents) (clock : ℕ) (h b : List ℕ) (paper : Bool) : Type 0 where
  pub judged : is_judged k (revoke_at h b clock) ≡ true
  pub says : (is_admitted_to_revoke sample_clients h b && may_revoke sample_clients (max clock k.highest) k.standing h b) ≡ paper

pub record Shown : Type 0 where
  -- "The code is live at 1599, not at 1600."
  pub in-time : ExchangeAt 1599 true
  pub too-late : ExchangeAt 1600 false
  pub named : (next ours sample_registry evening (check barn_access 2000)).named ≡ record { client = 1; farm = 9; scope = 1; left = 3110 }
  pub named-less : (after_day (check again_text 1510)).named ≡ record { client = 0; farm = 7; scope = 9; left = 3592 }
  -- "the whole reply, no line end"
  pub exchange-reply : text_in (next ours sample_registry visit (exchange_at 1599))
      ≡ bytes "{\"access_token\":\"202122232425262728292a2b2c2d2e2f30313233\",\"token_type\":\"Bearer\",\"expires_in\":3600,"
      ++ bytes "\"refresh_token\":\"3435363738393a3b3c3d3e3f4041424344454647\",\"scope\":\"power peak bill\"}"
  pub exchange-reply-less : text_in (after_day (asking header (repeating less_text) 1510))
      ≡ bytes "{\"access_token\":\"c0c1c2c3c4c5c6c7c8c9cacbcccdcecfd0d1d2d3\",\"token_type\":\"Bearer\",\"expires_in\":3600,"
      ++ bytes "\"refresh_token\":\"d4d5d6d7d8d9dadbdcdddedfe0e1e2e3e4e5e6e7\",\"scope\":\"peak bill\"}"
  -- by a header whose halves are coded: the client that has the code, and one that has not
  pub exchange-coded : (after_day (asking coded_header (repeating less_text) 1510)).granted ≡ true
  pub exchange-coded-other : (after_day (asking coded_header (exchange_of barn_text) 1510)).granted ≡ false
  -- "A refresh reply is the same without its refresh_token member.", with the scope granted, or the one asked
  pub refresh-reply : text_in (after_day (asking header (refresh_for refresh_text []) 1510))
      ≡ bytes "{\"access_token\":\"c0c1c2c3c4c5c6c7c8c9cacbcccdcecfd0d1d2d3\",\"token_type\":\"Bearer\",\"expires_in\":3600,"
      ++ bytes "\"scope\":\"power peak bill\"}"
  pub refresh-reply-less : text_in (after_day (asking header (refresh_for refresh_text (bytes "&scope=bill+peak")) 1510))
      ≡ bytes "{\"access_token\":\"c0c1c2c3c4c5c6c7c8c9cacbcccdcecfd0d1d2d3\",\"token_type\":\"Bearer\",\"expires_in\":3600,"
      ++ bytes "\"scope\":\"peak bill\"}"
  -- a client's token for itself: no owner allowed a farm, the set is its own or the one asked, and no refresh token comes with it
  pub named-own : (next ours sample_registry pumps (check own_text 1510)).named ≡ record { client = 0; farm = 0; scope = 11; left = 3090 }
  pub credentials-reply : text_in (next ours sample_registry pumps (asking header (own_for []) 1510))
      ≡ bytes "{\"access_token\":\"c0c1c2c3c4c5c6c7c8c9cacbcccdcecfd0d1d2d3\",\"token_type\":\"Bearer\",\"expires_in\":3600,"
      ++ bytes "\"scope\":\"power peak bill\"}"
  pub credentials-reply-less : text_in (after_day (asking header (own_for (bytes "&scope=bill+peak")) 1510))
      ≡ bytes "{\"access_token\":\"c0c1c2c3c4c5c6c7c8c9cacbcccdcecfd0d1d2d3\",\"token_type\":\"Bearer\",\"expires_in\":3600,"
      ++ bytes "\"scope\":\"peak bill\"}"
  pub own-confidential : OwnAsked header (own_for []) true
  pub own-public : OwnAsked [] (own_for (bytes "&client_id=barnapp")) false
  pub located : text_in (after_day (authorize_at 1510 0xC0))
      ≡ bytes "https://client.example.com/cb?code=c0c1c2c3c4c5c6c7c8c9cacbcccdcecfd0d1d2d3&state=xyz"
  pub located-barn : text_in (after_day (authorization barn_query 1 9 (handed_at 1510 20 0xC0)))
      ≡ bytes "https://barn.example/r?x=1&code=c0c1c2c3c4c5c6c7c8c9cacbcccdcecfd0d1d2d3"
  -- a try without the redirect_uri is refused, and the code's slot, bound, for client 0, farm 7, scopes 10 and until 2106, keeps its bytes
  pub kept : (i : ℕ) → i < slots_in_all
      → part (after_day (asking header (exchange_of less_text) 1510)).store (8 + i * 67) 67 ≡ part (encode_store (left_in day)) (8 + i * 67) 67
  pub kept-code : part (after_day (asking header (exchange_of less_text) 1510)).store (8 + 5 * 67) 67
      ≡ 2 ∷ count_up 20 3 ++ 0 ∷ 0 ∷ 0 ∷ 0 ∷ 7 ∷ 10 ∷ 0 ∷ 0 ∷ 0 ∷ 0 ∷ 0 ∷ 0 ∷ 8 ∷ 58 ∷ replicate 32 0
  -- a try without the verifier likewise, and the code keeps its challenge
  pub kept-challenge : part (after_day (asking [] (barn_try []) 1510)).store (8 + 4 * 67) 67
      ≡ 6 ∷ count_up 20 0x80 ++ 1 ∷ 0 ∷ 0 ∷ 0 ∷ 9 ∷ 1 ∷ 0 ∷ 0 ∷ 0 ∷ 0 ∷ 0 ∷ 0 ∷ 8 ∷ 57 ∷ challenge
  -- the exchanged code is shown again: its access token's slot is zero, its own keeps its bytes, and the token no longer passes
  pub cleared : part (after_day (asking header (exchange_of code_text) 1510)).store (8 + 67) 67 ≡ replicate 67 0
  pub kept-spent : part (after_day (asking header (exchange_of code_text) 1510)).store 8 67
      ≡ 5 ∷ count_up 20 0 ++ 0 ∷ 0 ∷ 0 ∷ 0 ∷ 7 ∷ 11 ∷ 0 ∷ 0 ∷ 0 ∷ 0 ∷ 0 ∷ 0 ∷ 6 ∷ 64 ∷ replicate 32 0
  pub withdrawn : (next ours sample_registry leak (check access_text 1601)).passed ≡ false
  -- the refresh token is revoked, by its client and not by another: the slots of both access tokens and its own are zero, that of the
  -- spent code keeps its bytes, nothing is written, and the token no longer passes, "also in the hour that the clock repeats"
  pub revocation-own : RevocationOf in_day 1510 header (revoking refresh_text) true
  pub revocation-other : RevocationOf in_day 1510 [] (barn_revoking refresh_text) false
  pub revoked-slot : part (after_day (revoke_at header (revoking refresh_text) 1510)).store (8 + 2 * 67) 67 ≡ replicate 67 0
  pub revoked-access : part (after_day (revoke_at header (revoking refresh_text) 1510)).store (8 + 67) 67 ≡ replicate 67 0
  pub revoked-again : part (after_day (revoke_at header (revoking refresh_text) 1510)).store (8 + 3 * 67) 67 ≡ replicate 67 0
  pub unrevoked-code : part (after_day (revoke_at header (revoking refresh_text) 1510)).store 8 67
      ≡ 5 ∷ count_up 20 0 ++ 0 ∷ 0 ∷ 0 ∷ 0 ∷ 7 ∷ 11 ∷ 0 ∷ 0 ∷ 0 ∷ 0 ∷ 0 ∷ 0 ∷ 6 ∷ 64 ∷ replicate 32 0
  pub revocation-reply : text_in (after_day (revoke_at header (revoking refresh_text) 1510)) ≡ []
  pub revoked : (next ours sample_registry farewell (check access_text 0)).passed ≡ false
  -- the visit's code is exchanged at 1500, and the refresh token revoked at 1505
  pub at-1500 : ExchangeAt 1500 true
  pub fits-1500 : is_fitting (exchange_at 1500) ≡ true
  pub revocation-1505 : RevocationOf in_exchange_visit 1505 header (revoking refresh_text) true
  pub own-1505 : is_revocable sample_clients (max 1505 in_exchange_visit.highest) header (revoking refresh_text) (token_until refresh refresh_text 11 2593500) ≡ true

unfoldable pub the_visit : Run
the_visit = record { calls = visit; typed = computed.visit-typed; contents = in_visit; contains = computed.visit-contains }

unfoldable pub the_day : Run
the_day = record { calls = day; typed = computed.day-typed; contents = in_day; contains = computed.day-contains }

pub the_evening : Run
the_evening = record { calls = evening; typed = computed.evening-typed; contents = in_evening; contains = computed.evening-contains }

pub the_farewell : Run
the_farewell = record { calls = farewell; typed = computed.farewell-typed; contents = in_farewell; contains = computed.farewell-contains }

pub the_leak : Run
the_leak = record { calls = leak; typed = computed.leak-typed; contents = in_leak; contains = computed.leak-contains }

pub the_pumps : Run
the_pumps = record { calls = pumps; typed = computed.pumps-typed; contents = in_pumps; contains = computed.pumps-contain }

-- a revocation after the day that is done
abbrev day_slot : ℕ → List ℕ
day_slot i = part (encode_store (left_in day)) (8 + i * 67) 67

module _ {h b : List ℕ} (e : RevocationOf in_day 1510 h b true) where
  abbrev revokes : Call
  revokes = revoke_at h b 1510

  day-done : (after_day revokes).granted ≡ true
  unfolding the_day revoke_at
  day-done = by-revokes the_day h b 1510 (replicate 1024 0) e.judged ∙ e.says

  day-cleared : (i : ℕ) → i < slots_in_all
      → part (after_day revokes).store (8 + i * 67) 67
      ≡ cond (is_cleared sample_clients (max 1510 in_day.highest) in_day.standing h b (day_slot i)) (replicate 67 0) (day_slot i)
  unfolding the_day revoke_at
  day-cleared = by-clears the_day h b 1510 (replicate 1024 0) e.judged day-done

  day-reply : text_in (after_day revokes) ≡ []
  unfolding the_day revoke_at
  day-reply = answers-text (by-revocation-replies the_day h b 1510 (replicate 1024 0) e.judged day-done)

-- one of the first slots, by whether it goes with the refresh token
abbrev left_of : ℕ → List Bool → List ℕ
left_of i goes = cond (get_or goes i false) (replicate 67 0) (day_slot i)

pub shown : Shown
unfolding text_definitions registry_definitions decision_definitions authorization_definitions client_definitions token_definitions claim_definitions call_definitions in_exchange_visit the_farewell in_farewell the_leak in_leak the_pumps own_until in_pumps the_visit the_day the_evening in_visit redirect code_until token_until barn_code in_day barn_token barn_access in_evening is_typed is_asked is_judged unfit_to is_fitting
shown = record {
  in-time = record { exchange = refl; asked = refl; judged = refl; says = refl };
  too-late = record { exchange = refl; asked = refl; judged = refl; says = refl };
  named =
      by_names the_evening barn_access 2000 refl (barn_token access barn_access 5110)
      (Memᴰ.tail (Memᴰ.head refl)) refl refl;
  named-less =
      by_names the_day again_text 1510 refl (token_until access again_text 9 5102)
      (Memᴰ.tail (Memᴰ.tail (Memᴰ.head refl))) refl refl;
  exchange-reply =
      answers-text
      (by-exchange-replies the_visit header (repeating code_text) (handed_at 1599 40 0x20) refl refl refl
      (by-exchanges the_visit header (repeating code_text) (handed_at 1599 40 0x20) refl refl refl));
  exchange-reply-less =
      let b = repeating less_text in
      let handed = handed_at 1510 40 0xC0 in
      answers-text
      (by-exchange-replies the_day header b handed refl refl refl
      (by-exchanges the_day header b handed refl refl refl));
  exchange-coded = by-exchanges the_day coded_header (repeating less_text) (handed_at 1510 40 0xC0) refl refl refl;
  exchange-coded-other = by-exchanges the_day coded_header (exchange_of barn_text) (handed_at 1510 40 0xC0) refl refl refl;
  refresh-reply =
      let b = refresh_for refresh_text [] in
      let handed = handed_at 1510 40 0xC0 in
      answers-text
      (by-refresh-replies the_day header b handed refl refl refl
      (by-refreshes the_day header b handed refl refl refl));
  refresh-reply-less =
      let b = refresh_for refresh_text (bytes "&scope=bill+peak") in
      let handed = handed_at 1510 40 0xC0 in
      answers-text
      (by-refresh-replies the_day header b handed refl refl refl
      (by-refreshes the_day header b handed refl refl refl));
  named-own = by_names the_pumps own_text 1510 refl (own_until own_text 11 4600) (Memᴰ.tail (Memᴰ.head refl)) refl refl;
  credentials-reply =
      let b = own_for [] in
      let handed = handed_at 1510 40 0xC0 in
      answers-text
      (by-credentials-replies the_pumps header b handed refl refl refl
      (by-credentials the_pumps header b handed refl refl refl));
  credentials-reply-less =
      let b = own_for (bytes "&scope=bill+peak") in
      let handed = handed_at 1510 40 0xC0 in
      answers-text
      (by-credentials-replies the_day header b handed refl refl refl
      (by-credentials the_day header b handed refl refl refl));
  own-confidential = record { credentials = refl; asked = refl; judged = refl; says = refl };
  own-public = record { credentials = refl; asked = refl; judged = refl; says = refl };
  located =
      answers-text
      (by-locates the_day rfc_query 1 7 (handed_at 1510 20 0xC0) refl
      (ap (λ (r : Result). r.granted) (result-is the_day (authorize_at 1510 0xC0) refl) ∙ computed.code-granted));
  located-barn =
      let handed = handed_at 1510 20 0xC0 in
      answers-text
      (by-locates the_day barn_query 1 9 handed refl
      (ap (λ (r : Result). r.granted) (result-is the_day (authorization barn_query 1 9 handed) refl) ∙ computed.barn-granted));
  kept =
      by-spends-nothing the_day (asking header (exchange_of less_text) 1510) refl
      (by-exchanges the_day header (exchange_of less_text) (handed_at 1510 40 0xC0) refl refl refl);
  kept-code =
      by-spends-nothing the_day (asking header (exchange_of less_text) 1510) refl
      (by-exchanges the_day header (exchange_of less_text) (handed_at 1510 40 0xC0) refl refl refl) 5 (lit< tt) ∙ computed.code-kept;
  kept-challenge =
      by-spends-nothing the_day (asking [] (barn_try []) 1510) refl
      (by-exchanges the_day [] (barn_try []) (handed_at 1510 40 0xC0) refl refl refl) 4 (lit< tt) ∙ computed.challenge-kept;
  cleared =
      by-spends-nothing the_day (asking header (exchange_of code_text) 1510) refl
      (by-exchanges the_day header (exchange_of code_text) (handed_at 1510 40 0xC0) refl refl refl) 1 (lit< tt)
      ∙ ap (λ (b : Bool). cond b (replicate 67 0) (part (encode_store (left_in day)) (8 + 67) 67)) computed.token-held;
  kept-spent =
      by-spends-nothing the_day (asking header (exchange_of code_text) 1510) refl
      (by-exchanges the_day header (exchange_of code_text) (handed_at 1510 40 0xC0) refl refl refl) 0 (lit< tt)
      ∙ ap (λ (b : Bool). cond b (replicate 67 0) (part (encode_store (left_in day)) 8 67)) computed.none-held
      ∙ computed.code-spent;
  withdrawn = by-passes the_leak access_text 1601 refl;
  revocation-own = record { judged = refl; says = refl };
  revocation-other = record { judged = refl; says = refl };
  revoked-slot = day-cleared (record { judged = refl; says = refl }) 2 (lit< tt) ∙ ap (left_of 2) computed.goes_with_lem;
  revoked-access = day-cleared (record { judged = refl; says = refl }) 1 (lit< tt) ∙ ap (left_of 1) computed.goes_with_lem;
  revoked-again = day-cleared (record { judged = refl; says = refl }) 3 (lit< tt) ∙ ap (left_of 3) computed.goes_with_lem;
  unrevoked-code = day-cleared (record { judged = refl; says = refl }) 0 (lit< tt) ∙ ap (left_of 0) computed.goes_with_lem ∙ computed.code-spent;
  revocation-reply = day-reply (record { judged = refl; says = refl });
  revoked = by-passes the_farewell access_text 0 refl;
  at-1500 = record { exchange = refl; asked = refl; judged = refl; says = refl };
  fits-1500 = refl;
  revocation-1505 = record { judged = refl; says = refl };
  own-1505 = refl;
}

-- ---- gone for good: the code is exchanged at 1500, the client revokes the refresh token at 1505, and the clock is set back

pub the_exchange : Run
the_exchange = record { calls = exchange_visit; typed = computed.exchange-typed; contents = in_exchange_visit; contains = computed.exchange-contains }

pub the_gone : Run
the_gone = record { calls = gone; typed = computed.gone-typed; contents = contained_in gone; contains = refl }

-- the access token was got by the exchange
pub got-access : GotFrom ours sample_registry exchange_visit code_text access_text
unfolding exchange_visit the_visit visit in_visit token_until exchange_at token_at handed_at handed_to is_judged
got-access =
    let c = exchange_at 1500 in
    let e = shown.at-1500 in
    let token = token_until access access_text 11 5100 in
    let issues : List Client → Contents → Result → List Issue = λ clients k r. issued_by clients (max 1500 k.highest) k.standing c r in
    let are =
    ap₂ (λ (clients : List Client) (k : Contents). issues clients k (next ours sample_registry visit c)) sample-clients (contents-are the_visit)
    ∙ ap (λ (r : Result). issues sample_clients in_visit r) (result-is the_visit c shown.fits-1500)
    ∙ computed.exchange-issues
    in
    record {
      before = visit;
      call = c;
      behind = [];
      among = refl;
      seen = (judged the_visit c e.judged).fit;
      granted = by-exchanges the_visit header (repeating code_text) (handed_at 1500 40 0x20) e.asked e.judged e.exchange ∙ e.says;
      issue = token;
      issued = subst (λ (l : List Issue). Memᴰ token l) (sym are) (Memᴰ.tail (Memᴰ.head refl));
      is_access = refl;
      shown = refl;
      from = refl;
    }

-- the client revokes the refresh token
pub is-revoked : IsRevoked ours sample_registry exchange_visit code_text header (revoking refresh_text) 1505 (replicate 1024 0)
unfolding the_exchange in_exchange_visit token_until revoke_at
is-revoked =
    let token = token_until refresh refresh_text 11 2593500 in
    let e = shown.revocation-1505 in
    let own : List Client → Contents → Bool = λ clients k. is_revocable clients (max 1505 k.highest) header (revoking refresh_text) token in
    record {
      token = token;
      stands = subst (λ (k : Contents). Memᴰ token k.standing) (sym (contents-are the_exchange)) (Memᴰ.head refl);
      own = ap₂ own sample-clients (contents-are the_exchange) ∙ shown.own-1505;
      is_refresh = refl;
      from = refl;
      seen = (judged the_exchange (revoke_at header (revoking refresh_text) 1505) e.judged).fit;
      done = by-revokes the_exchange header (revoking refresh_text) 1505 (replicate 1024 0) e.judged ∙ e.says;
    }

-- so the access token does not pass, whatever the clock says
pub gone-for-good : (next ours sample_registry gone (check access_text 1000)).passed ≡ false
unfolding gone revoke_at the_gone
gone-for-good =
    revoked-for-good sample_registry sample-bytes exchange_visit code_text header (revoking refresh_text) 1505 (replicate 1024 0) is-revoked access_text
    got-access [] (typed the_gone) 1000 (judged the_gone (check access_text 1000) computed.gone-judged)
