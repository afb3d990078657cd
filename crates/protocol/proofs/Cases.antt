-- What a case of the tables is, and what it is for the outcome functions to decide it as the paper says.
--
-- A case is a call with all that it is handed, and what the paper has for it: the numbers that a C host sees, the text that is
-- written, and the store after. `Decided` says of a case that the outcome function of its endpoint, from raw bytes, comes to just
-- that, whatever an output of the case's length holds. To compute over the bytes of a store would be slow, so `agrees`
-- computes on the store as a record, and `decided` is the law that the bytes come to the same. A table is a list of rows, each a case
-- that agrees by computation; of every table it follows that each of its cases is decided (`all-decided`).
--
-- In order: calls and stores; a case; what is claimed of it; what is computed; the law, from the store's slots to a whole call; tables.
-- Assumes nothing.
use Prim.Native.Nat.{ℕ, zero, suc, ◌-◌, ◌^◌, ◌≤◌, ◌<◌, max}
use mathlib.Core.Path.{◌≡◌, refl, sym, ap, ap₂, ◌∙◌, subst}
use mathlib.Core.Bool.{Bool, true, false, not, false≢true, ◌&&◌}
use mathlib.Core.List.{List, [], ◌∷◌, ◌++◌}
use Rattle.std.specs.Prelude.{Ok, Err}
use native.Mathlib.Nat.{zero-add, not-suc-le-zero}
use native.Mathlib.Omega.{arith}
use borrow.Author.Tests.{eqb-true, eq-eqb, leb-true, ltb-true}
use lib.Dec.{leb, ltb, eqb}
use lib.ListN.{length, drop, get_or, replicate, length-append, length-replicate}
use lib.Seq.{sets, sets-eq}
use Rattle.octets.specs.Text.{bytes}
use Rattle.octets.specs.Lists.{every, same}
use Rattle.octets.specs.BigEndian.{big_endian_bytes}
use Rattle.octets.specs.Search.{bit}
use Rattle.octets.proofs.Booleans.{and_left, and_right, and-implied}
use Rattle.octets.proofs.Lists.{every_append, every-replicate, same-eq}
use Rattle.octets.proofs.Searches.{every-each}
use Rattle.client_registry.specs.Registry.{fit_registry, clients_of}
use Rattle.token_store.specs.Layout.{time_size, slot_count, store_size, handle_size, farm_size, expiry_size, link_size, latest_time}
use Rattle.token_store.specs.Store.{Store, SlotFits, SlotsFit, no_link, link_to, free_slot, encode, decode}
use Rattle.token_store.specs.Fit.{fit_slot, fit_store}
use Rattle.token_store.specs.declared.Slot.{Slot}
use Rattle.token_store.proofs.Codec.{length-encode, decode-encode}
use Rattle.protocol.specs.declared.Refusal.TheVariants.{Unfit}
use Rattle.protocol.specs.declared.Input.TheVariants.{Buffers, Registry, Store as bad_store, Clock}
use Rattle.protocol.specs.declared.AuthorizationAnswer.{AuthorizationAnswer}
use Rattle.protocol.specs.declared.TokenAnswer.{TokenAnswer}
use Rattle.protocol.specs.declared.CheckAnswer.{CheckAnswer}
use Rattle.protocol.specs.declared.CheckAnswer.TheVariants.{Refused, NotLive, Live}
use Rattle.protocol.specs.Answers.{refusal_number, error_number, status_of, Decision}
use Rattle.protocol.specs.Refusals.{when, first_of}
use Rattle.protocol.specs.Outcomes.{Handed, Endpoint, Outcome, admit, outcome_by, outcome, authorization_endpoint, token_endpoint, revocation_endpoint, check_endpoint, authorization_outcome, token_outcome, revocation_outcome, check_outcome, without_random, clock_alone}

-- ---- calls and stores

-- a call by its own arguments: query, decision and farm; header and body, at two endpoints; the token presented
pub data Call : Type 0 where
  authorization : (query : List ℕ) (decision farm : ℕ) → Call
  token : (header body : List ℕ) → Call
  revocation : (header body : List ℕ) → Call
  check : (presented : List ℕ) → Call

-- a store: the first of its slots, and what each of the others is
pub record ShortStore : Type 0 where
  pub time : ℕ
  pub first : List Slot
  pub rest : Slot

abbrev pub slots_of : ShortStore → List Slot
slots_of l = l.first ++ replicate (slot_count - length l.first) l.rest

abbrev pub store_of : ShortStore → Store
store_of l = record { time = l.time; slots = slots_of l }

-- a store of these slots and free ones
abbrev pub holding : ℕ → List Slot → ShortStore
holding time slots = record { time = time; first = slots; rest = free_slot }

-- a store of these slots and then others, all alike but for the last of all
abbrev pub lastly : ℕ → List Slot → Slot → Slot → ShortStore
lastly time slots others s = record { time = time; first = slots ++ replicate (slot_count - 1 - length slots) others; rest = s }

-- a slot by its fields, the link being zero, as in codes without a challenge
abbrev pub slot : (kind : ℕ) (handle : List ℕ) (client farm scope expiry : ℕ) → Slot
slot kind handle client farm scope expiry = record {
  kind = kind;
  handle = handle;
  client = client;
  farm = farm;
  scope = scope;
  expiry = expiry;
  link = no_link;
}

-- the same with a link: for a code of the kinds 6 and 7 its challenge. With an origin, which tokens have
abbrev pub linked : List ℕ → Slot → Slot
linked link s = record {
  kind = s.kind;
  handle = s.handle;
  client = s.client;
  farm = s.farm;
  scope = s.scope;
  expiry = s.expiry;
  link = link;
}

abbrev pub from : List ℕ → Slot → Slot
from origin s = linked (link_to origin) s

-- what an exchange leaves of its code: "Keep an exchanged code as kind 5, spent, until its old expiry."; its challenge is "zero again once
-- spent as kind 5"
abbrev pub spent : Slot → Slot
spent code = slot 5 code.handle code.client code.farm code.scope code.expiry

-- the challenge of RFC 7636, Appendix B, and what a query says to send it: "E9Melhoa2OwvFrEMTJguCHaoeK1t8URWbuGJSstw-cM"
abbrev pub challenge : List ℕ
challenge = big_endian_bytes 32 0x13d31e96_1a1ad8ec_2f16b10c_4c982e08_76a878ad_6df14456_6ee1894a_cb70f9c3

abbrev pub challenging : List ℕ
challenging = bytes "&code_challenge=E9Melhoa2OwvFrEMTJguCHaoeK1t8URWbuGJSstw-cM&code_challenge_method=S256"

-- n numbers from k on
abbrev pub count_up : ℕ → ℕ → List ℕ
count_up zero k = []
count_up (suc n) k = k ∷ count_up n (suc k)

-- ---- a case

pub record Case : Type 0 where
  pub call : Call
  pub registry : List ℕ
  pub store : ShortStore
  pub clock : ℕ
  pub random : List ℕ
  -- how many bytes the output has; the check is handed none. Neither it nor a revocation is handed random bytes
  pub room : ℕ
  -- what the paper has: the numbers of the answer, the text that is written, the store after
  pub numbers : List ℕ
  pub text : List ℕ
  pub after : ShortStore

-- ---- what is claimed

abbrev pub AnswerTo : Call → Type 0
AnswerTo (authorization query decision farm) = AuthorizationAnswer
AnswerTo (token header body) = TokenAnswer
AnswerTo (revocation header body) = TokenAnswer
AnswerTo (check presented) = CheckAnswer

-- what the outcome function of the call's endpoint says
abbrev pub outcome_of : (k : Call) (registry store : List ℕ) (handed : Handed) → Outcome (AnswerTo k)
outcome_of (authorization query decision farm) registry store handed = authorization_outcome query decision farm registry store handed
outcome_of (token header body) registry store handed = token_outcome header body registry store handed
outcome_of (revocation header body) registry store handed = revocation_outcome header body registry store handed.clock handed.output
outcome_of (check presented) registry store handed = check_outcome presented registry store handed.clock

-- what the call is handed; a revocation has no random bytes, and the check neither these nor an output
abbrev pub handed_to : Call → ℕ → List ℕ → List ℕ → Handed
handed_to (authorization query decision farm) clock random output = record { clock = clock; random = random; output = output }
handed_to (token header body) clock random output = record { clock = clock; random = random; output = output }
handed_to (revocation header body) clock random output = without_random clock output
handed_to (check presented) clock random output = clock_alone clock

abbrev pub refusal_of : Decision → ℕ
refusal_of (Ok tt) = 0
refusal_of (Err r) = refusal_number r

abbrev pub error_of : Decision → ℕ
error_of (Ok tt) = 0
error_of (Err r) = error_number r

-- the numbers of an answer to an authenticated client: refusal, status, error word and challenge
abbrev reply_numbers : TokenAnswer → List ℕ
reply_numbers a = refusal_of a.decision ∷ status_of a.decision ∷ error_of a.decision ∷ bit a.challenge ∷ []

-- the numbers that a C host sees but for the length. Authorization: refusal and error word. Token and revocation: those above.
-- Check: refusal, live, client, farm, scope and seconds left, which are 0 where they do not apply
abbrev pub numbers_of : (k : Call) → AnswerTo k → List ℕ
numbers_of (authorization query decision farm) a = refusal_of a.decision ∷ error_of a.decision ∷ []
numbers_of (token header body) a = reply_numbers a
numbers_of (revocation header body) a = reply_numbers a
numbers_of (check presented) (Refused r) = refusal_number r ∷ 0 ∷ 0 ∷ 0 ∷ 0 ∷ 0 ∷ []
numbers_of (check presented) NotLive = 0 ∷ 0 ∷ 0 ∷ 0 ∷ 0 ∷ 0 ∷ []
numbers_of (check presented) (Live l) = 0 ∷ 1 ∷ l.client ∷ l.farm ∷ l.scope ∷ l.left ∷ []

abbrev pub length_of : (k : Call) → AnswerTo k → ℕ
length_of (authorization query decision farm) a = a.length
length_of (token header body) a = a.length
length_of (revocation header body) a = a.length
length_of (check presented) a = 0

-- the outcome is as the case has it: it answers the numbers and the text's length, writes the text at the start of the output and
-- nothing behind it, and leaves the store's bytes as said
pub record AsSaid (c : Case) (before : List ℕ) (o : Outcome (AnswerTo c.call)) : Type 0 where
  pub numbers : numbers_of c.call o.answer ≡ c.numbers
  pub size : length_of c.call o.answer ≡ length c.text
  pub output : o.output ≡ c.text ++ drop (length c.text) before
  pub store : o.store ≡ encode (store_of c.after)

-- the outcome function decides the case as the paper says, whatever an output of that length holds
abbrev pub Decided : Case → Type 0
Decided c = (output : List ℕ) → length output ≡ c.room
    → let handed = handed_to c.call c.clock c.random output in
    AsSaid c handed.output (outcome_of c.call c.registry (encode (store_of c.store)) handed)

-- ---- what is computed

abbrev pub endpoint_of : (k : Call) → Endpoint (AnswerTo k)
endpoint_of (authorization query decision farm) = authorization_endpoint query decision farm
endpoint_of (token header body) = token_endpoint header body
endpoint_of (revocation header body) = revocation_endpoint header body
endpoint_of (check presented) = check_endpoint presented

-- refusals 1 to 4, by whether buffers, registry and store are fit: "The first that applies counts."
abbrev pub admit_by : Bool → Bool → Bool → ℕ → Decision
admit_by buffers_unfit registry_fit store_fit clock =
    first_of
    (when buffers_unfit (Unfit Buffers)
    ∷ when (not registry_fit) (Unfit Registry)
    ∷ when (not store_fit) (Unfit bad_store)
    ∷ when (ltb latest_time clock) (Unfit Clock)
    ∷ [])

-- every test passes
abbrev pub all_of : List Bool → Bool
all_of [] = true
all_of (b ∷ bs) = b && all_of bs

-- a slot's fields fit their widths
abbrev pub widths : Slot → List Bool
widths s =
    ltb s.kind (256 ^ 1)
    ∷ eqb (length s.handle) handle_size
    ∷ ltb s.client (256 ^ 1)
    ∷ ltb s.farm (256 ^ farm_size)
    ∷ ltb s.scope (256 ^ 1)
    ∷ ltb s.expiry (256 ^ expiry_size)
    ∷ eqb (length s.link) link_size
    ∷ []

abbrev pub is_wide : Slot → Bool
is_wide s = all_of (widths s)

-- the store is one that bytes can say
abbrev pub writing : ShortStore → List Bool
writing l = ltb (length l.first) slot_count ∷ ltb l.time (256 ^ time_size) ∷ is_wide l.rest ∷ every is_wide l.first ∷ []

abbrev pub is_writable : ShortStore → Bool
is_writable l = all_of (writing l)

abbrev pub fit_ledger : ℕ → ShortStore → Bool
fit_ledger clients l = leb l.time latest_time && (every (fit_slot clients) l.first && fit_slot clients l.rest)

-- what a call comes to on a store that is a record: "Every call past refusals 1 to 4, whatever it answers, stores T as mark."; "1 to 4
-- change no byte"
pub record Result (Answer : Type 0) : Type 0 where
  pub answer : Answer
  pub text : List ℕ
  pub after : Store

module _ {Answer : Type 0} (endpoint : Endpoint Answer) (registry : List ℕ) (st : Store) (clock : ℕ) (random : List ℕ) where
  abbrev pub result_by : Decision → Result Answer
  result_by (Ok tt) =
      let t = max clock st.time in
      let served = endpoint.serve (clients_of registry) t st.slots random in
      record { answer = served.answer; text = served.text; after = record { time = t; slots = served.slots } }
  result_by (Err refusal) = record { answer = endpoint.refuse refusal; text = []; after = st }

abbrev pub same_fields : Slot → Slot → List Bool
same_fields s u =
    eqb s.kind u.kind
    ∷ same s.handle u.handle
    ∷ eqb s.client u.client
    ∷ eqb s.farm u.farm
    ∷ eqb s.scope u.scope
    ∷ eqb s.expiry u.expiry
    ∷ same s.link u.link
    ∷ []

abbrev pub same_slot : Slot → Slot → Bool
same_slot s u = all_of (same_fields s u)

abbrev pub same_slots : List Slot → List Slot → Bool
same_slots [] [] = true
same_slots [] (u ∷ us) = false
same_slots (s ∷ ss) [] = false
same_slots (s ∷ ss) (u ∷ us) = same_slot s u && same_slots ss us

abbrev pub same_store : Store → Store → Bool
same_store g h = eqb g.time h.time && same_slots g.slots h.slots

abbrev pub agreements : (c : Case) → Result (AnswerTo c.call) → List Bool
agreements c r =
    same (numbers_of c.call r.answer) c.numbers
    ∷ eqb (length_of c.call r.answer) (length c.text)
    ∷ same r.text c.text
    ∷ same_store r.after (store_of c.after)
    ∷ []

-- what is handed but for the output's bytes, which no call looks at
abbrev pub blank : Case → Handed
blank c = handed_to c.call c.clock c.random (replicate c.room 0)

abbrev pub result_of : (c : Case) → Result (AnswerTo c.call)
result_of c =
    let endpoint = endpoint_of c.call in
    let handed = blank c in
    result_by endpoint c.registry (store_of c.store) c.clock handed.random
    (admit_by (endpoint.unfit handed) (fit_registry c.registry) (fit_ledger (length (clients_of c.registry)) c.store) c.clock)

abbrev pub agrees : Case → Bool
agrees c = is_writable c.store && (leb (length c.text) (length (blank c).output) && all_of (agreements c (result_of c)))

-- ---- the law: from tests to facts

Each : List Bool → Type 0
Each [] = Unit {0}
Each (b ∷ bs) = (b ≡ true) × Each bs

each : (bs : List Bool) → all_of bs ≡ true → Each bs
unfolding Each
each [] e = tt
each (b ∷ bs) e = (and_left b (all_of bs) e, each bs (and_right b (all_of bs) e))

every_some : {A : Type 0} (p : A → Bool) (n : ℕ) (x : A) → 0 < n → every p (replicate n x) ≡ p x
unfolding every
every_some p zero x h = absurd (not-suc-le-zero h)
every_some p (suc n) x h = and-implied (p x) (every p (replicate n x)) (every-replicate p n x)

wide_fits : (s : Slot) → is_wide s ≡ true → SlotFits s
unfolding Each
wide_fits s e =
    let w = each (widths s) e in
    record {
      kind = ltb-true s.kind _ w.0;
      handle = eqb-true (length s.handle) _ w.1.0;
      client = ltb-true s.client _ w.1.1.0;
      farm = ltb-true s.farm _ w.1.1.1.0;
      scope = ltb-true s.scope _ w.1.1.1.1.0;
      expiry = ltb-true s.expiry _ w.1.1.1.1.1.0;
      link = eqb-true (length s.link) _ w.1.1.1.1.1.1.0;
    }

free-wide : is_wide free_slot ≡ true
unfolding free_slot
free-wide = refl

module _ (l : ShortStore) (e : is_writable l ≡ true) where
  parts : Each (writing l)
  parts = each (writing l) e

  writable-size : length (slots_of l) ≡ slot_count
  unfolding Each
  writable-size =
      length-append l.first _
      ∙ omega (arith, length-replicate (slot_count - length l.first) l.rest, ltb-true (length l.first) slot_count parts.0)

  writable-time : l.time < 256 ^ time_size
  unfolding Each
  writable-time = ltb-true l.time _ parts.1.0

  every-slot : (p : Slot → Bool) → every p (slots_of l) ≡ (every p l.first && p l.rest)
  unfolding Each
  every-slot p =
      every_append p l.first _
      ∙ ap (λ (b : Bool). every p l.first && b)
      (every_some p (slot_count - length l.first) l.rest (omega (arith, ltb-true (length l.first) slot_count parts.0)))

  writable-slots : SlotsFit (slots_of l)
  unfolding Each
  writable-slots i =
      wide_fits (get_or (slots_of l) i free_slot)
      (every-each is_wide free_slot (slots_of l) free-wide (every-slot is_wide ∙ rw (parts.1.1.0, parts.1.1.1.0)) i)

  -- its bytes are read back
  read_back : decode (encode (store_of l)) ≡ store_of l
  read_back = decode-encode (store_of l) writable-size writable-time writable-slots

  fit-as-record : (clients : ℕ) → fit_store clients (encode (store_of l)) ≡ fit_ledger clients l
  unfolding fit_store
  fit-as-record clients =
      rw (read_back, eq-eqb (length (encode (store_of l))) store_size (length-encode (store_of l) writable-size writable-time writable-slots))
      (ap (λ (b : Bool). leb l.time latest_time && b) (every-slot (fit_slot clients)))

slot-eq : (s u : Slot) → same_slot s u ≡ true → s ≡ u
unfolding Each
slot-eq s u e =
    let w = each (same_fields s u) e in
    λ j. record {
      kind = eqb-true s.kind u.kind w.0 j;
      handle = same-eq s.handle u.handle w.1.0 j;
      client = eqb-true s.client u.client w.1.1.0 j;
      farm = eqb-true s.farm u.farm w.1.1.1.0 j;
      scope = eqb-true s.scope u.scope w.1.1.1.1.0 j;
      expiry = eqb-true s.expiry u.expiry w.1.1.1.1.1.0 j;
      link = same-eq s.link u.link w.1.1.1.1.1.1.0 j;
    }

slots-eq : (ss us : List Slot) → same_slots ss us ≡ true → ss ≡ us
slots-eq [] [] e = refl
slots-eq [] (u ∷ us) e = absurd (false≢true e)
slots-eq (s ∷ ss) [] e = absurd (false≢true e)
slots-eq (s ∷ ss) (u ∷ us) e =
    ap₂ ◌∷◌ (slot-eq s u (and_left (same_slot s u) (same_slots ss us) e)) (slots-eq ss us (and_right (same_slot s u) (same_slots ss us) e))

store-eq : (g h : Store) → same_store g h ≡ true → g ≡ h
store-eq g h e = λ j. record {
  time = eqb-true g.time h.time (and_left (eqb g.time h.time) (same_slots g.slots h.slots) e) j;
  slots = slots-eq g.slots h.slots (and_right (eqb g.time h.time) (same_slots g.slots h.slots) e) j;
}

-- ---- a whole call

admit-by : (unfit : Bool) (registry : List ℕ) (l : ShortStore) (clock : ℕ) → is_writable l ≡ true
    → admit unfit registry (encode (store_of l)) clock
    ≡ admit_by unfit (fit_registry registry) (fit_ledger (length (clients_of registry)) l) clock
unfolding admit
admit-by unfit registry l clock e = rw (fit-as-record l e (length (clients_of registry)))

-- a result with its store in bytes
abbrev written : {A : Type 0} → Handed → Result A → Outcome A
written handed r = record { answer = r.answer; output = sets handed.output 0 r.text; store = encode r.after }

module _ {A : Type 0} (endpoint : Endpoint A) (registry : List ℕ) (st : Store) (back : decode (encode st) ≡ st) (handed : Handed) where
  outcome-by : (d : Decision)
      → outcome_by endpoint registry (encode st) handed d ≡ written handed (result_by endpoint registry st handed.clock handed.random d)
  unfolding outcome_by
  outcome-by (Ok tt) = rw back
  outcome-by (Err r) = refl

module _ {A : Type 0} (endpoint : Endpoint A) (registry : List ℕ) (l : ShortStore) (e : is_writable l ≡ true) (handed : Handed) where
  whole : (unfit : Bool) → endpoint.unfit handed ≡ unfit
      → outcome endpoint registry (encode (store_of l)) handed
      ≡ written handed
      (result_by endpoint registry (store_of l) handed.clock handed.random
      (admit_by unfit (fit_registry registry) (fit_ledger (length (clients_of registry)) l) handed.clock))
  unfolding outcome
  whole unfit u =
      ap (outcome_by endpoint registry (encode (store_of l)) handed)
      (ap (λ (b : Bool). admit b registry (encode (store_of l)) handed.clock) u ∙ admit-by unfit registry l handed.clock e)
      ∙ outcome-by endpoint registry (store_of l) (read_back l e) handed _

-- of an output nothing but its length is looked at
called : (k : Call) (registry : List ℕ) (l : ShortStore) → is_writable l ≡ true → (clock : ℕ) (random output blank : List ℕ) → length output ≡ length blank
    → let handed = handed_to k clock random output in
    let empty = handed_to k clock random blank in
    outcome_of k registry (encode (store_of l)) handed
    ≡ written handed
    (result_by (endpoint_of k) registry (store_of l) clock empty.random
    (admit_by ((endpoint_of k).unfit empty) (fit_registry registry) (fit_ledger (length (clients_of registry)) l) clock))
called (authorization query decision farm) registry l e clock random output blank n =
    whole (authorization_endpoint query decision farm) registry l e _ _ (rw n)
called (token header body) registry l e clock random output blank n = whole (token_endpoint header body) registry l e _ _ (rw n)
called (revocation header body) registry l e clock random output blank n = whole (revocation_endpoint header body) registry l e _ _ (rw n)
called (check presented) registry l e clock random output blank n = whole (check_endpoint presented) registry l e _ _ refl

room_of : (k : Call) (clock : ℕ) (random output blank : List ℕ) → length output ≡ length blank
    → length (handed_to k clock random output).output ≡ length (handed_to k clock random blank).output
room_of (authorization query decision farm) clock random output blank n = n
room_of (token header body) clock random output blank n = n
room_of (revocation header body) clock random output blank n = n
room_of (check presented) clock random output blank n = refl

-- a text at the start of an output that has room for it
text-first : (text output : List ℕ) → length text ≤ length output → sets output 0 text ≡ text ++ drop (length text) output
text-first text output short = simp zero-add at (sets-eq text output 0 (simp zero-add short))

-- a case that agrees on records is decided on bytes
pub decided : (c : Case) → agrees c ≡ true → Decided c
unfolding Each
decided c e output size =
    let r = result_of c in
    let fits : Bool = leb (length c.text) (length (blank c).output) in
    let rest = and_right (is_writable c.store) (fits && all_of (agreements c r)) e in
    let agreed = each (agreements c r) (and_right fits (all_of (agreements c r)) rest) in
    let handed = handed_to c.call c.clock c.random output in
    let zeros : List ℕ = replicate c.room 0 in
    let n : length output ≡ length zeros = size ∙ sym (length-replicate {A = ℕ} c.room 0) in
    let short : length c.text ≤ length handed.output =
    rw (room_of c.call c.clock c.random output zeros n)
    (leb-true (length c.text) (length (blank c).output) (and_left fits (all_of (agreements c r)) rest))
    in
    subst (AsSaid c handed.output)
    (sym
    (called c.call c.registry c.store (and_left (is_writable c.store) (fits && all_of (agreements c r)) e) c.clock c.random output
    zeros n))
    (record {
      numbers = same-eq (numbers_of c.call r.answer) c.numbers agreed.0;
      size = eqb-true (length_of c.call r.answer) (length c.text) agreed.1.0;
      output = ap (sets handed.output 0) (same-eq r.text c.text agreed.1.1.0) ∙ text-first c.text handed.output short;
      store = ap encode (store-eq r.after (store_of c.after) agreed.1.1.1.0);
    })

-- ---- a table

-- a row: a case, and that it agrees; a wrong one is refused in its place
pub record Row : Type 0 where
  pub case : Case
  pub agreed : agrees case ≡ true

abbrev pub row : (c : Case) → agrees c ≡ true → Row
row c agreed = record { case = c; agreed = agreed }

-- every case of a table is decided as it says
abbrev pub AllDecided : List Row → Type 0
AllDecided [] = Unit {0}
AllDecided (r ∷ rs) = Decided r.case × AllDecided rs

pub all-decided : (rs : List Row) → AllDecided rs
all-decided [] = tt
all-decided (r ∷ rs) = (decided r.case r.agreed, all-decided rs)
