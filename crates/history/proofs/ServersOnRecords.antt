-- Any server over stores as records, by which calls over the sample registry compute, and how demand 3 is seen to be false of it.
--
-- In order: a server as a model on records, and that a list of calls comes to the same on bytes (`follow`); for each clause of the
-- claim, tests that compute and say that it is false at a call; that the claim is false when they pass.
-- Assumes nothing.
use mathlib.Core.Path.{◌≡◌, refl, sym, ap, ap₂, ◌∙◌, subst}
use mathlib.Core.Bool.{Bool, true, false, cond, not, ◌&&◌, beq, false≢true, true≢false}
use mathlib.Core.Logic.{◌⊎◌, inl, inr}
use mathlib.Core.List.{List, [], ◌∷◌, ◌++◌, Memᴰ}
use Prim.Native.Nat.{ℕ, ◌+◌, ◌*◌, ◌-◌, ◌<◌, max}
use native.Mathlib.Omega.{arith}
use borrow.Author.Tests.{eq-eqb, not-true}
use lib.Dec.{eqb}
use lib.ListN.{get_or, length, replicate}
use lib.Seq.{sets}
use Rattle.octets.specs.Lists.{Bytes, every, part}
use Rattle.octets.specs.Search.{any}
use Rattle.octets.specs.Text.{bytes}
use Rattle.octets.proofs.Booleans.{and_left, and_right, or_cases}
use Rattle.octets.proofs.Searches.{every-each}
use Rattle.form.specs.Content.{form_value}
use Rattle.client_registry.specs.Registry.{Client, clients_of, distinct}
use Rattle.client_registry.specs.Sample.{sample_clients, sample_registry}
use Rattle.client_registry.specs.Lookup.{number_of, client_at}
use Rattle.token_store.specs.Layout.{slot_count}
use Rattle.token_store.specs.Store.{Store, encode, fresh, slot_of, decode_slot, slot_bytes}
use Rattle.token_store.specs.declared.Slot.{Slot}
use Rattle.token_store.proofs.Codec.{slot_at}
use Rattle.protocol.specs.declared.LiveToken.{LiveToken}
use Rattle.protocol.specs.Token.{token_reply, refresh_member}
use Rattle.protocol.specs.Outcomes.{Handed}
use Rattle.protocol.specs.Authorization.{location, code_parameter}
use Rattle.history.specs.Calls.{Call, token, check, handed_to, WellTyped, AllWellTyped, Result, Event, Server, store_after_all, events, fresh_store, authorization}
use Rattle.history.specs.Slots.{holds_token_from}
use Rattle.history.specs.Contents.{access, Issue, is_a, is_live_at, is_of, is_exchange, Contents, nothing_yet, with_events, twenties, code, refresh, origin_of, value_of, asked_or, first_twenty, last_twenty, is_refresh, is_credentials, caller, is_admitted, is_second_showing, code_shown}
use Rattle.history.specs.Claim.{Answers, may_exchange, contained, next, Judged, Demand3, CredentialsYield, may_refresh, may_have_own, may_pass, Asks}
use Rattle.history.proofs.SoundStores.{sound_back, sound-fresh}
use Rattle.history.proofs.AllCalls.{fresh-bytes}
use Rattle.history.proofs.CallsOnRecords.{is_fitting}
use Rattle.history.proofs.Sample.{SoundSample, sample-clients, distinct-never}

-- ---- servers over stores as records

pub record Model : Type 0 where
  pub result : Store → Call → Result
  pub left : Store → Call → Store

-- on the bytes of a sound store, the server does as the model says
pub record Follows (server : Server) (m : Model) : Type 0 where
  pub results : (g : Store) → SoundSample g → (c : Call) → WellTyped c → is_fitting c ≡ true → server sample_registry (encode g) c ≡ m.result g c
  pub stores : (g : Store) → SoundSample g → (c : Call) → is_fitting c ≡ true → (m.result g c).store ≡ encode (m.left g c)
  pub sounds : (g : Store) → SoundSample g → (c : Call) → WellTyped c → is_fitting c ≡ true → SoundSample (m.left g c)

module _ (m : Model) where
  unfoldable pub left_after : Store → List Call → Store
  left_after g [] = g
  left_after g (c ∷ cs) = left_after (m.left g c) cs

  unfoldable pub events_after : Store → List Call → List Event
  events_after g [] = []
  events_after g (c ∷ cs) = record { call = c; result = m.result g c } ∷ events_after (m.left g c) cs

  -- what some calls contain
  abbrev pub contained_after : List Call → Contents
  contained_after cs = with_events sample_clients nothing_yet (events_after fresh cs)

module _ {server : Server} {m : Model} (f : Follows server m) where
  pub record Followed (g : Store) (cs : List Call) : Type 0 where
    pub same-events : events server sample_registry (encode g) cs ≡ events_after m g cs
    pub same_store : store_after_all server sample_registry (encode g) cs ≡ encode (left_after m g cs)
    pub sound : SoundSample (left_after m g cs)

  follow : (g : Store) → SoundSample g → (cs : List Call) → AllWellTyped cs → every is_fitting cs ≡ true → Followed g cs
  unfolding events events_after store_after_all left_after AllWellTyped every
  follow g w [] typed e = record { same-events = refl; same_store = refl; sound = w }
  follow g w (c ∷ cs) typed e =
      let p = and_left (is_fitting c) (every is_fitting cs) e in
      let o = f.results g w c typed.0 p in
      let s = ap (λ (r : Result). r.store) o ∙ f.stores g w c p in
      let r = follow (m.left g c) (f.sounds g w c typed.0 p) cs typed.1 (and_right (is_fitting c) (every is_fitting cs) e) in
      record {
        same-events =
            ap₂ {C = List Event} (λ x es. record { call = c; result = x } ∷ es) o
            (ap (λ (b : List ℕ). events server sample_registry b cs) s ∙ r.same-events);
        same_store = ap (λ (b : List ℕ). store_after_all server sample_registry b cs) s ∙ r.same_store;
        sound = r.sound;
      }

-- ---- how a clause is false at a call: tests that compute, all of which must pass

abbrev pub all : List Bool → Bool
all tests = every (λ b. b) tests

-- another text stands in the output, by its first byte
abbrev is_other : Handed → Result → List ℕ → Bool
is_other handed r text = not (eqb (get_or r.output 0 0) (get_or (sets handed.output 0 text) 0 0))

-- an issue that a check must name, with other seconds left
unfoldable pub is_named_wrongly : ℕ → List ℕ → Result → Issue → Bool
is_named_wrongly t presented r e = is_live_at t e && ((is_a access e && is_of presented e) && not (eqb r.named.left (e.expiry - t)))

-- what an endpoint must write
abbrev exchange_text : List ℕ → Handed → Contents → List ℕ
exchange_text body handed k =
    let scope = (origin_of code (value_of body (bytes "code")) k.standing).scope in
    token_reply (first_twenty handed.random) (refresh_member (last_twenty handed.random)) scope

abbrev refresh_text : List ℕ → Handed → Contents → List ℕ
refresh_text body handed k =
    let granted = (origin_of refresh (value_of body (bytes "refresh_token")) k.standing).scope in
    token_reply (first_twenty handed.random) [] (asked_or (form_value body (bytes "scope")) granted)

abbrev credentials_text : List ℕ → List ℕ → Handed → List Client → List ℕ
credentials_text header body handed clients =
    let set = (client_at clients (caller clients header body)).scope in
    token_reply (first_twenty handed.random) [] (asked_or (form_value body (bytes "scope")) set)

abbrev code_text : List ℕ → Handed → List Client → List ℕ
code_text query handed clients =
    let redirect = (client_at clients (number_of (value_of query (bytes "client_id")) clients)).redirect in
    location redirect (code_parameter (first_twenty handed.random)) (form_value query (bytes "state"))

-- of what the calls before contain, and what comes of the call
module _ (k : Contents) (r : Result) where
  -- it is judged, and ..
  abbrev judged_and : Call → List Bool → List Bool
  judged_and c tests = is_fitting c ∷ not r.unfit ∷ distinct (twenties c ++ k.randoms) ∷ tests

  module _ (header body : List ℕ) (handed : Handed) where
    abbrev asks_and : List Bool → List Bool
    asks_and tests = judged_and (token header body handed) (is_admitted sample_clients header body ∷ tests)

    abbrev pub exchanges_wrongly : List Bool
    exchanges_wrongly =
        let may = may_exchange sample_clients (max handed.clock k.highest) k.standing header body in
        asks_and (is_exchange body ∷ not (beq r.granted may) ∷ [])

    abbrev pub refreshes_wrongly : List Bool
    refreshes_wrongly =
        let may = may_refresh sample_clients (max handed.clock k.highest) k.standing header body in
        asks_and (is_refresh body ∷ not (beq r.granted may) ∷ [])

    abbrev pub credentials_wrongly : List Bool
    credentials_wrongly =
        let may = may_have_own sample_clients (max handed.clock k.highest) k.standing header body in
        asks_and (is_credentials body ∷ not (beq r.granted may) ∷ [])

    abbrev pub exchange_replies_wrongly : List Bool
    exchange_replies_wrongly = asks_and (is_exchange body ∷ r.granted ∷ is_other handed r (exchange_text body handed k) ∷ [])

    abbrev pub refresh_replies_wrongly : List Bool
    refresh_replies_wrongly = asks_and (is_refresh body ∷ r.granted ∷ is_other handed r (refresh_text body handed k) ∷ [])

    abbrev pub credentials_replies_wrongly : List Bool
    credentials_replies_wrongly = asks_and (is_credentials body ∷ r.granted ∷ is_other handed r (credentials_text header body handed sample_clients) ∷ [])

  module _ (presented : List ℕ) (clock : ℕ) where
    abbrev pub passes_wrongly : List Bool
    passes_wrongly = judged_and (check presented clock) (not (beq r.passed (may_pass (max clock k.highest) k.standing presented)) ∷ [])

    abbrev pub names_wrongly : List Bool
    names_wrongly = judged_and (check presented clock) (any (is_named_wrongly (max clock k.highest) presented r) k.standing ∷ [])

  module _ (query : List ℕ) (decision farm : ℕ) (handed : Handed) where
    abbrev pub locates_wrongly : List Bool
    locates_wrongly =
        judged_and (authorization query decision farm handed) (r.granted ∷ is_other handed r (code_text query handed sample_clients) ∷ [])

    abbrev pub measures_wrongly : List Bool
    measures_wrongly =
        judged_and (authorization query decision farm handed)
        (r.granted ∷ not (eqb r.length (length (code_text query handed sample_clients))) ∷ [])

-- a refused call, which is no second showing, changes the kind of a slot, by the stores before and after
abbrev pub spends_slot : Contents → Call → Result → Store → Store → ℕ → List Bool
spends_slot k c r before after i =
    is_fitting c
    ∷ not r.unfit
    ∷ distinct (twenties c ++ k.randoms)
    ∷ not r.granted
    ∷ not (is_second_showing sample_clients (max (handed_to c).clock k.highest) k.standing c)
    ∷ not (eqb (slot_of before i).kind (slot_of after i).kind)
    ∷ []

-- ---- the claim is then false

apart : (a b : Bool) → a ≡ b → not (beq a b) ≡ true → ⊥
apart true true e n = false≢true n
apart true false e n = true≢false e
apart false true e n = false≢true e
apart false false e n = false≢true n

pub unequal : (a b : ℕ) → a ≡ b → not (eqb a b) ≡ true → ⊥
unequal a b e n = false≢true (sym (not-true (eqb a b) n) ∙ eq-eqb a b e)

slot-back : (g : Store) → SoundSample g → (i : ℕ) → i < slot_count → slot_of g i ≡ decode_slot (slot_bytes (encode g) i)
slot-back g w i below = ap (λ (s : Store). slot_of s i) (sym (sound_back g w)) ∙ slot_at (encode g) i below

any-member : {A : Type 0} (p : A → Bool) (l : List A) → any p l ≡ true → ((e : A) → Memᴰ e l → p e ≡ true → ⊥) → ⊥
unfolding any
any-member p [] e f = false≢true e
any-member p (x ∷ xs) e f = by (or_cases (p x) (any p xs) e) (λ h. any-member p xs h (λ y m. f y (Memᴰ.tail m)))
  where
    by : (p x ≡ true) ⊎ (any p xs ≡ true) → (any p xs ≡ true → ⊥) → ⊥
    by (inl h) more = f x (Memᴰ.head refl) h
    by (inr h) more = more h

-- tests that all pass, by their places
each : (tests : List Bool) → all tests ≡ true → (k : ℕ) → get_or tests k true ≡ true
each tests e = every-each (λ b. b) true tests refl e

other-fails : (handed : Handed) (r : Result) (text : List ℕ) → r.output ≡ sets handed.output 0 text → is_other handed r text ≡ true → ⊥
other-fails handed r text e n =
    unequal (get_or r.output 0 0) (get_or (sets handed.output 0 text) 0 0) (ap (λ (l : List ℕ). get_or l 0 0) e) n

module _ {server : Server} {m : Model} (f : Follows server m) (cs : List Call) (typed : AllWellTyped cs) (past : every is_fitting cs ≡ true) where
  followed : Followed f fresh cs
  followed = follow f fresh (sound-fresh _) cs typed past

  -- what the calls contain, and what comes of one more
  abbrev k : Contents
  k = contained_after m cs

  abbrev pub result_after : Call → Result
  result_after c = m.result (left_after m fresh cs) c

  contained-is : contained server sample_registry cs ≡ k
  contained-is =
      ap (λ (b : List ℕ). with_events (clients_of sample_registry) nothing_yet (events server sample_registry b cs)) fresh-bytes
      ∙ ap₂ (λ (clients : List Client) (es : List Event). with_events clients nothing_yet es) sample-clients followed.same-events

  module _ (c : Call) (t : WellTyped c) (e : is_fitting c ≡ true) where
    result-is : next server sample_registry cs c ≡ result_after c
    result-is =
        ap (λ (b : List ℕ). server sample_registry (store_after_all server sample_registry b cs) c) fresh-bytes
        ∙ ap (λ (b : List ℕ). server sample_registry b c) followed.same_store
        ∙ f.results (left_after m fresh cs) followed.sound c t e

    -- what the claim says of the call, by the model
    said : (P : List Client → Contents → Result → Type 0)
        → P (clients_of sample_registry) (contained server sample_registry cs) (next server sample_registry cs c) → P sample_clients k (result_after c)
    said P h =
        subst (λ (clients : List Client). P clients k (result_after c)) sample-clients
        (subst (λ (x : Contents). P (clients_of sample_registry) x (result_after c)) contained-is
        (subst (P (clients_of sample_registry) (contained server sample_registry cs)) result-is h))

    judged : not (result_after c).unfit ≡ true → distinct (twenties c ++ k.randoms) ≡ true → Judged server sample_registry cs c
    judged fit once = record {
      fit = ap (λ (r : Result). r.unfit) result-is ∙ not-true (result_after c).unfit fit;
      once = rw contained-is (distinct-never (twenties c ++ k.randoms) once);
    }

  module _ (header body : List ℕ) (handed : Handed) (t : Bytes handed.random) where
    abbrev c : Call
    c = token header body handed

    asks : (e : is_fitting c ≡ true) → not (result_after c).unfit ≡ true → distinct (twenties c ++ k.randoms) ≡ true
        → is_admitted sample_clients header body ≡ true → Asks server sample_registry cs header body handed
    asks e fit once admitted = record { judged = judged c t e fit once; admitted = rw sample-clients admitted }

    pub exchange-fails : all (exchanges_wrongly k (result_after c) header body handed) ≡ true → Demand3 server sample_registry cs → ⊥
    exchange-fails e d =
        let h = each (exchanges_wrongly k (result_after c) header body handed) e in
        apart (result_after c).granted (may_exchange sample_clients (max handed.clock k.highest) k.standing header body)
        (said c t (h 0) (λ clients x r. r.granted ≡ may_exchange clients (max handed.clock x.highest) x.standing header body)
        (d.exchanges header body handed (asks (h 0) (h 1) (h 2) (h 3)) (h 4))) (h 5)

    pub refresh-fails : all (refreshes_wrongly k (result_after c) header body handed) ≡ true → Demand3 server sample_registry cs → ⊥
    refresh-fails e d =
        let h = each (refreshes_wrongly k (result_after c) header body handed) e in
        apart (result_after c).granted (may_refresh sample_clients (max handed.clock k.highest) k.standing header body)
        (said c t (h 0) (λ clients x r. r.granted ≡ may_refresh clients (max handed.clock x.highest) x.standing header body)
        (d.refreshes header body handed (asks (h 0) (h 1) (h 2) (h 3)) (h 4))) (h 5)

    pub credentials-fails : all (credentials_wrongly k (result_after c) header body handed) ≡ true → CredentialsYield server sample_registry cs → ⊥
    credentials-fails e d =
        let h = each (credentials_wrongly k (result_after c) header body handed) e in
        apart (result_after c).granted (may_have_own sample_clients (max handed.clock k.highest) k.standing header body)
        (said c t (h 0) (λ clients x r. r.granted ≡ may_have_own clients (max handed.clock x.highest) x.standing header body)
        (d.yields header body handed (asks (h 0) (h 1) (h 2) (h 3)) (h 4))) (h 5)

    pub exchange-reply-fails : all (exchange_replies_wrongly k (result_after c) header body handed) ≡ true → Demand3 server sample_registry cs → ⊥
    exchange-reply-fails e d =
        let h = each (exchange_replies_wrongly k (result_after c) header body handed) e in
        let granted = ap (λ (r : Result). r.granted) (result-is c t (h 0)) ∙ h 5 in
        other-fails handed (result_after c) (exchange_text body handed k)
        (said c t (h 0) (λ clients x r. r.output ≡ sets handed.output 0 (exchange_text body handed x))
        (d.exchange_replies header body handed (asks (h 0) (h 1) (h 2) (h 3)) (h 4) granted).written) (h 6)

    pub refresh-reply-fails : all (refresh_replies_wrongly k (result_after c) header body handed) ≡ true → Demand3 server sample_registry cs → ⊥
    refresh-reply-fails e d =
        let h = each (refresh_replies_wrongly k (result_after c) header body handed) e in
        let granted = ap (λ (r : Result). r.granted) (result-is c t (h 0)) ∙ h 5 in
        other-fails handed (result_after c) (refresh_text body handed k)
        (said c t (h 0) (λ clients x r. r.output ≡ sets handed.output 0 (refresh_text body handed x))
        (d.refresh_replies header body handed (asks (h 0) (h 1) (h 2) (h 3)) (h 4) granted).written) (h 6)

    pub credentials-reply-fails : all (credentials_replies_wrongly k (result_after c) header body handed) ≡ true → Demand3 server sample_registry cs → ⊥
    credentials-reply-fails e d =
        let h = each (credentials_replies_wrongly k (result_after c) header body handed) e in
        let granted = ap (λ (r : Result). r.granted) (result-is c t (h 0)) ∙ h 5 in
        other-fails handed (result_after c) (credentials_text header body handed sample_clients)
        (said c t (h 0) (λ clients x r. r.output ≡ sets handed.output 0 (credentials_text header body handed clients))
        (d.credentials_replies header body handed (asks (h 0) (h 1) (h 2) (h 3)) (h 4) granted).written) (h 6)

  module _ (presented : List ℕ) (clock : ℕ) where
    abbrev shown : Call
    shown = check presented clock

    abbrev time : ℕ
    time = max clock k.highest

    pub pass-fails : all (passes_wrongly k (result_after shown) presented clock) ≡ true → Demand3 server sample_registry cs → ⊥
    pass-fails e d =
        let h = each (passes_wrongly k (result_after shown) presented clock) e in
        apart (result_after shown).passed (may_pass time k.standing presented)
        (said shown tt (h 0) (λ clients x r. r.passed ≡ may_pass (max clock x.highest) x.standing presented)
        (d.passes presented clock (judged shown tt (h 0) (h 1) (h 2)))) (h 3)

    pub name-fails : all (names_wrongly k (result_after shown) presented clock) ≡ true → Demand3 server sample_registry cs → ⊥
    unfolding is_named_wrongly
    name-fails e d =
        let r = result_after shown in
        let h = each (names_wrongly k r presented clock) e in
        let says =
        said shown tt (h 0)
        (λ clients x r. (e : Issue) → Memᴰ e x.standing → is_live_at (max clock x.highest) e ≡ true
        → (is_a access e && is_of presented e) ≡ true → r.named.left ≡ e.expiry - max clock x.highest)
        (λ e member live is. ap (λ (l : LiveToken). l.left) (d.names presented clock (judged shown tt (h 0) (h 1) (h 2)) e member live is))
        in
        any-member (is_named_wrongly time presented r) k.standing (h 3)
        (λ e member q.
        let is = is_a access e && is_of presented e in
        let differs = not (eqb r.named.left (e.expiry - time)) in
        let rest = and_right (is_live_at time e) (is && differs) q in
        let named = says e member (and_left (is_live_at time e) (is && differs) q) (and_left is differs rest) in
        unequal r.named.left (e.expiry - time) named (and_right is differs rest))

  module _ (query : List ℕ) (decision farm : ℕ) (handed : Handed) (t : WellTyped (authorization query decision farm handed)) where
    abbrev owner : Call
    owner = authorization query decision farm handed

    abbrev text : List Client → List ℕ
    text clients = code_text query handed clients

    answers : (e : is_fitting owner ≡ true) → not (result_after owner).unfit ≡ true → distinct (twenties owner ++ k.randoms) ≡ true
        → (result_after owner).granted ≡ true → Demand3 server sample_registry cs → Answers handed (result_after owner) (text sample_clients)
    answers e fit once granted d =
        said owner t e (λ clients x r. Answers handed r (text clients))
        (d.locates query decision farm handed (judged owner t e fit once) (ap (λ (r : Result). r.granted) (result-is owner t e) ∙ granted))

    pub locate-fails : all (locates_wrongly k (result_after owner) query decision farm handed) ≡ true → Demand3 server sample_registry cs → ⊥
    locate-fails e d =
        let h = each (locates_wrongly k (result_after owner) query decision farm handed) e in
        other-fails handed (result_after owner) (text sample_clients) (answers (h 0) (h 1) (h 2) (h 3) d).written (h 4)

    pub measure-fails : all (measures_wrongly k (result_after owner) query decision farm handed) ≡ true → Demand3 server sample_registry cs → ⊥
    measure-fails e d =
        let h = each (measures_wrongly k (result_after owner) query decision farm handed) e in
        unequal (result_after owner).length (length (text sample_clients)) (answers (h 0) (h 1) (h 2) (h 3) d).ends (h 4)

  pub spend-fails : (c : Call) → WellTyped c → (i : ℕ) → i < slot_count
      → let g = left_after m fresh cs in all (spends_slot k c (result_after c) g (m.left g c) i) ≡ true
      → Demand3 server sample_registry cs → ⊥
  spend-fails c t i below e d =
      let g = left_after m fresh cs in
      let after = m.left g c in
      let h = each (spends_slot k c (result_after c) g after i) e in
      let sound = followed.sound in
      let was = part (store_after_all server sample_registry fresh_store cs) (8 + i * 67) 67 in
      let refused = ap (λ (r : Result). r.granted) (result-is c t (h 0)) ∙ not-true (result_after c).granted (h 3) in
      let second : List Client → Contents → Bool = λ clients x. is_second_showing clients (max (handed_to c).clock x.highest) x.standing c in
      let none = ap₂ second sample-clients contained-is ∙ not-true (second sample_clients k) (h 4) in
      let kept : slot_bytes (encode g) i ≡ slot_bytes (encode after) i =
      sym (ap (λ (b : List ℕ). slot_bytes b i) (ap (λ (b : List ℕ). store_after_all server sample_registry b cs) fresh-bytes ∙ followed.same_store))
      ∙ sym (d.spends_nothing c (judged c t (h 0) (h 1) (h 2)) refused i (omega (arith, below)) ∙ ap (λ (b : Bool). cond (b && holds_token_from (code_shown c) was) (replicate 67 0) was) none)
      ∙ ap (λ (b : List ℕ). slot_bytes b i) (ap (λ (r : Result). r.store) (result-is c t (h 0)) ∙ f.stores g sound c (h 0))
      in
      let same-slot = slot-back g sound i below ∙ ap decode_slot kept ∙ sym (slot-back after (f.sounds g sound c t (h 0)) i below) in
      unequal (slot_of g i).kind (slot_of after i).kind (ap (λ (s : Slot). s.kind) same-slot) (h 5)
