-- Demand 1: the one claim about every call on any store (`demand1`).
--
-- The first input that is unfit decides refusals 1 to 4, which leave all bytes. Past them the store is fit, so that it is read as a
-- sound one (`fit-sound`): a call leaves it sound, and a refusal leaves its slots, which are written as they were read
-- (`encode-later`), but where a code is shown twice, which frees some of them (`encode-freed`). What is written fits the output (Written).
--
-- In order: the first unfit input; later refusals; a code that is shown twice; the store that is left; the theorem.
-- Assumes nothing.
use mathlib.Core.Path.{◌≡◌, refl, sym, ap, ◌∙◌, fun_ext}
use mathlib.Core.Bool.{Bool, true, false, cond, not, ◌&&◌, ◌||◌, or_assoc, or-false, true≢false}
use mathlib.Core.List.{List, []}
use Prim.Native.Nat.{ℕ, ◌≤◌}
use Rattle.std.specs.Prelude.{Err, Option}
use lib.Dec.{ltb, lit<}
use native.Mathlib.Omega.{arith}
use borrow.Author.Tests.{le-ltb}
use lib.ListN.{length, take as take_first, drop}
use lib.Seq.{take_at, drop_at, length-take-le, sets}
use Rattle.octets.specs.Text.{bytes}
use Rattle.octets.specs.Lists.{Bytes, every}
use Rattle.octets.specs.Search.{any}
use Rattle.octets.proofs.Booleans.{by-test, and_left}
use Rattle.octets.proofs.Counting.{first_or-passes, first_or-none}
use Rattle.encoding.specs.Hex.{read_handle}
use Rattle.form.specs.Content.{Value, form_value}
use Rattle.client_registry.proofs.Clients.{redirect-most}
use Rattle.client_registry.specs.Registry.{Client, fit_registry, clients_of}
use Rattle.client_registry.specs.Lookup.{client_at}
use Rattle.token_store.specs.Layout.{latest_time, time_size, store_size}
use Rattle.token_store.specs.Store.{Store, is_sought, is_live, free_slot, shows, sought_key, encode, decode, call_time}
use Rattle.token_store.specs.declared.Sought.TheVariants.{Code, Spent}
use Rattle.token_store.proofs.Slots.{sought-used}
use Rattle.token_store.proofs.Codec.{time-at, encode-later, encode-freed}
use Rattle.token_store.proofs.Fits.{fit-size}
use Rattle.token_store.specs.declared.Slot.{Slot}
use Rattle.protocol.specs.declared.Input.{Input}
use Rattle.protocol.specs.declared.Input.TheVariants.{Buffers, Registry, Store as StoreInput, Clock}
use Rattle.protocol.specs.declared.ErrorWord.TheVariants.{InvalidGrant}
use Rattle.protocol.specs.declared.Refusal.{Refusal}
use Rattle.protocol.specs.declared.Refusal.TheVariants.{Unfit, ErrorPage, Redirect, Token, Failed}
use Rattle.protocol.specs.Answers.{is_grant, Decision}
use Rattle.protocol.specs.Authorization.{query_client, location_text}
use Rattle.protocol.specs.Revocation.{revocation_reply}
use Rattle.protocol.specs.Granting.{first_handle, shown_slot, decision_on, is_issued_on, without_issued_on}
use Rattle.protocol.specs.Outcomes.{unfit_reasons, Handed, Endpoint, Outcome, admit, outcome_by, outcome, serve_authorization, authorization_endpoint, reply_text, serve_token, token_endpoint, without_random, serve_revocation, revocation_endpoint, check_endpoint, clock_alone}
use Rattle.protocol.proofs.Reasons.{stop, pass, first-counts, grant-every}
use Rattle.history.specs.Calls.{Call, authorization, token, revocation, check, handed_to, WellTyped}
use Rattle.history.specs.Server.{Answer, authorization_answer, token_answer, check_answer, answering, outcome_of, is_unfit, is_granted, length_of}
use Rattle.history.specs.Contents.{value_of, code_shown}
use Rattle.history.specs.AnyStore.{is_unspent, is_shown_twice, without_tokens_from, after_refusal, buffers_unfit, inputs, is_fit_for, is_unfit_input, FirstUnfit, unfit_answer, unfit_outcome, decision_in, refusal_text, refusal_answer, with_clock, done, output, Demand1}
use Rattle.history.proofs.SoundStores.{sound-fit, fit-sound}
use Rattle.history.proofs.AnyCall.{outcome_on, asked, plan_on, unfit_to, is_past, TakenCall, unseen, seen, refused-unfit, take, seen-past, past-buffers, past-registry, past-store, left_by, store-on, fit_on, refused-left}
use Rattle.history.proofs.Asking.{caller-is}
use Rattle.history.proofs.SecondShowing.{is_again, denied-is, again-refused}
use Rattle.history.proofs.Written.{text_on, Written, written-within, written-sized, written-beyond, written_on, unfit-written}
use Rattle.history.proofs.AllCalls.{brings, sound-left}

-- ---- the first unfit input

module _ (registry store : List ℕ) where
  -- the claim's test of the buffers is the server's
  same-buffers : (c : Call) → unfit_to c ≡ buffers_unfit c
  unfolding unfit_to buffers_unfit
  same-buffers (authorization query decision farm handed) = refl
  same-buffers (token header body handed) = refl
  same-buffers (revocation header body clock output) = refl
  same-buffers (check presented clock) = refl

  module _ (c : Call) where
    abbrev admitted : Decision
    admitted = admit (unfit_to c) registry store (handed_to c).clock

    first-refused : (i : Input) → FirstUnfit registry store c i → admitted ≡ Err (Unfit i)
    unfolding admit is_unfit_input
    first-refused Buffers u = first-counts (stop (same-buffers c ∙ u.unfit))
    first-refused Registry u = first-counts (pass (same-buffers c ∙ u.first Buffers (lit< tt)) (stop u.unfit))
    first-refused StoreInput u =
        first-counts (pass (same-buffers c ∙ u.first Buffers (lit< tt)) (pass (u.first Registry (lit< tt)) (stop u.unfit)))
    first-refused Clock u =
        first-counts
        (pass (same-buffers c ∙ u.first Buffers (lit< tt))
        (pass (u.first Registry (lit< tt)) (pass (u.first StoreInput (lit< tt)) (stop u.unfit))))

    -- a call is past refusals 1 to 4 where no input is unfit
    past-none : not (is_past registry store c) ≡ any (is_unfit_input registry store c) inputs
    unfolding admit is_unfit_input any every
    past-none =
        ap not (grant-every (unfit_reasons (unfit_to c) registry store (handed_to c).clock))
        ∙ rw same-buffers (four (buffers_unfit c) (not (fit_registry registry)) (not (is_fit_for registry store)) (ltb latest_time (handed_to c).clock))
      where
        four : (p q r s : Bool) → not (not p && (not q && (not r && (not s && true)))) ≡ (p || (q || (r || (s || false))))
        four true q r s = refl
        four false true r s = refl
        four false false true s = refl
        four false false false true = refl
        four false false false false = refl

  refused-at : {A : Type 0} (tag : A → Answer) (endpoint : Endpoint A) (handed : Handed) (i : Input)
      → admit (endpoint.unfit handed) registry store handed.clock ≡ Err (Unfit i)
      → answering tag (outcome endpoint registry store handed)
      ≡ record { answer = tag (endpoint.refuse (Unfit i)); output = handed.output; store = store }
  unfolding outcome outcome_by
  refused-at tag endpoint handed i e = ap (λ (d : Decision). answering tag (outcome_by endpoint registry store handed d)) e

  unfit-done : (c : Call) (i : Input) → admitted c ≡ Err (Unfit i) → outcome_of registry store c ≡ unfit_outcome store c i
  unfolding handed_to unfit_to unfit_answer outcome_of
  unfit-done (authorization query decision farm handed) i e = refused-at authorization_answer (authorization_endpoint query decision farm) handed i e
  unfit-done (token header body handed) i e = refused-at token_answer (token_endpoint header body) handed i e
  unfit-done (revocation header body clock output) i e = refused-at token_answer (revocation_endpoint header body) (without_random clock output) i e
  unfit-done (check presented clock) i e = refused-at check_answer (check_endpoint presented) (clock_alone clock) i e

-- ---- later refusals

-- no text of a refusal has the handle
handle-unused : (redirect : List ℕ) (state : Value) (handle : List ℕ) (r : Refusal)
    → location_text redirect state handle (Err r) ≡ location_text redirect state [] (Err r)
unfolding location_text
handle-unused redirect state handle (Unfit i) = refl
handle-unused redirect state handle (ErrorPage p) = refl
handle-unused redirect state handle (Redirect w) = refl
handle-unused redirect state handle (Token w) = refl
handle-unused redirect state handle (Failed f) = refl

module _ (clients : List Client) (g : Store) where
  refused-on : (c : Call) (r : Refusal) → decision_in (outcome_on clients g c).answer ≡ Err r
      → let text = refusal_text clients c r in
      let o = outcome_on clients g c in
      (o.answer ≡ refusal_answer c r (length text)) × (o.output ≡ sets (handed_to c).output 0 text)
  unfolding handed_to outcome_on serve_authorization serve_token serve_revocation decision_in refusal_text refusal_answer reply_text revocation_reply is_grant
  refused-on (authorization query decision farm handed) r e =
      let redirect = (client_at clients (query_client clients query)).redirect in
      rw (e, handle-unused redirect (form_value query (bytes "state")) (first_handle handed.random) r) (refl, refl)
  refused-on (token header body handed) r e = rw e (refl, refl)
  refused-on (revocation header body clock output) r e = rw e (refl, refl)
  refused-on (check presented clock) r e = absurd (true≢false (ap is_grant e))

-- ---- a code that is shown twice

-- a spent code that is found is live before its expiry; what stands for none never is
spent-live : (t : ℕ) (slots : List Slot) (p : Option (List ℕ)) → let s = shown_slot Spent p slots in is_live t s ≡ ltb t s.expiry
unfolding free_slot
spent-live t slots p = by-test (any key slots) found none
  where
    key : Slot → Bool
    key = sought_key Spent p

    found : any key slots ≡ true → is_live t (shown_slot Spent p slots) ≡ ltb t (shown_slot Spent p slots).expiry
    found e =
        let s = shown_slot Spent p slots in
        rw (sought-used Spent s (and_left (is_sought Spent s) (shows p s) (first_or-passes key free_slot slots e)))

    none : any key slots ≡ false → is_live t (shown_slot Spent p slots) ≡ ltb t (shown_slot Spent p slots).expiry
    none e = rw (first_or-none key free_slot slots e) (sym (le-ltb t 0 (omega arith)))

-- the claim's words are the server's
unspent-key : (text : List ℕ) → is_unspent text ≡ sought_key Code (read_handle text)
unfolding any
unspent-key text = fun_ext (λ s. simp (or_assoc, or-false))

module _ (clients : List Client) (store : List ℕ) where
  twice-again : (c : Call) → is_shown_twice clients store c ≡ is_again clients (call_time (decode store) (handed_to c).clock) (decode store).slots c
  unfolding is_shown_twice is_again handed_to
  twice-again (authorization query decision farm handed) = refl
  twice-again (token header body handed) =
      let p = read_handle (value_of body (bytes "code")) in
      rw (
        caller-is clients header body,
        unspent-key (value_of body (bytes "code")),
        ← (time-at store),
        spent-live (call_time (decode store) handed.clock) (decode store).slots p,
      )
  twice-again (revocation header body clock output) = refl
  twice-again (check presented clock) = refl

  -- what is decided is what is answered, of a call that can be refused
  twice-decided : (c : Call) → is_shown_twice clients store c ≡ true → decision_on (plan_on clients (decode store) c) ≡ Err (Token InvalidGrant)
      → decision_in (outcome_on clients (decode store) c).answer ≡ Err (Token InvalidGrant)
  unfolding outcome_on serve_authorization serve_token serve_revocation decision_in asked handed_to is_shown_twice
  twice-decided (authorization query decision farm handed) twice e = e
  twice-decided (token header body handed) twice e = e
  twice-decided (revocation header body clock output) twice e = e
  twice-decided (check presented clock) twice e = absurd (true≢false (sym twice))

-- ---- the store that is left

module _ (registry : List ℕ) (bytes : Bytes registry) (store : List ℕ) (stored : Bytes store) (c : Call) (typed : WellTyped c) where
  abbrev clients : List Client
  clients = clients_of registry

  -- what is answered is within the output, whose other bytes stay
  pub record Within : Type 0 where
    pub short : length_of (done registry store c).answer ≤ length (output registry store c)
    pub sized : length (done registry store c).output ≡ length (output registry store c)
    pub beyond : let long = length_of (done registry store c).answer in drop long (done registry store c).output ≡ drop long (output registry store c)

  written : Within
  written = by (take registry store c)
    where
      within : {text : List ℕ} → Written (output registry store c) (done registry store c) text → Within
      within w = record { short = written-within w; sized = written-sized w; beyond = written-beyond w }

      by : TakenCall registry store c → Within
      by (unseen i n e) = within {text = []} (rw e (unfit-written store c i))
      by (seen past e) =
          let least = redirect-most registry (past-registry registry store c past) in
          within {text = text_on clients (decode store) c} (rw e (written_on clients least (decode store) c (past-buffers registry store c past)))

  unfit-told : is_unfit (done registry store c).answer ≡ not (is_past registry store c)
  unfit-told = by (take registry store c)
    where
      by : TakenCall registry store c → is_unfit (done registry store c).answer ≡ not (is_past registry store c)
      by (unseen i n e) = rw (e, n) (refused-unfit c i)
      by (seen past e) = rw (e, past) (fit_on clients (decode store) c (brings registry bytes c typed store past))

  refused-answers : (r : Refusal) → is_unfit (done registry store c).answer ≡ false → decision_in (done registry store c).answer ≡ Err r
      → let text = refusal_text clients c r in
      ((done registry store c).answer ≡ refusal_answer c r (length text)) × ((done registry store c).output ≡ sets (output registry store c) 0 text)
  refused-answers r fit e =
      let served = (seen-past registry store c fit).1 in rw served (refused-on clients (decode store) c r (rw served at e))

  abbrev t : ℕ
  t = call_time (decode store) (handed_to c).clock

  abbrev slots : List Slot
  slots = (decode store).slots

  -- the store that a refusal leaves, where a code is shown again and where not
  abbrev LeavesAs : Bool → Type 0
  LeavesAs again =
      encode (record { time = t; slots = cond again (without_issued_on (read_handle (code_shown c)) slots) slots })
      ≡ with_clock (handed_to c).clock (cond again (without_tokens_from (code_shown c) store) store)

  leaves-as : length store ≡ store_size → (again : Bool) → LeavesAs again
  unfolding encode
  leaves-as size true =
      let front : length (take_first time_size store) ≡ time_size = length-take-le time_size store (omega arith) in
      let freed = encode-freed store size stored (is_issued_on (read_handle (code_shown c))) in
      rw (freed, time-at store, take_at (take_first time_size store) _ time_size front, drop_at (take_first time_size store) _ time_size front)
  leaves-as size false = encode-later store size stored t ∙ rw (time-at store)

  refused-store : is_unfit (done registry store c).answer ≡ false → is_granted (done registry store c).answer ≡ false
      → (done registry store c).store ≡ with_clock (handed_to c).clock (after_refusal clients store c)
  refused-store fit denied =
      let p = seen-past registry store c fit in
      let size = fit-size (length clients) store (past-store registry store c p.0) in
      let left = refused-left clients (decode store) c (rw p.1 at denied) ∙ denied-is clients t slots (handed_to c).random c in
      ap (λ (o : Outcome Answer). o.store) p.1
      ∙ store-on clients (decode store) c
      ∙ ap (λ (l : List Slot). encode (record { time = t; slots = l })) left
      ∙ leaves-as size (is_again clients t slots c)
      ∙ ap (λ (b : Bool). with_clock (handed_to c).clock (cond b (without_tokens_from (code_shown c) store) store)) (sym (twice-again clients store c))

  twice-refused : is_unfit (done registry store c).answer ≡ false → is_shown_twice clients store c ≡ true
      → decision_in (done registry store c).answer ≡ Err (Token InvalidGrant)
  twice-refused fit twice =
      rw (seen-past registry store c fit).1 (twice-decided clients store c twice (again-refused clients t slots (handed_to c).random c (sym (twice-again clients store c) ∙ twice)))

  stays_fit_lem : is_fit_for registry store ≡ true → is_fit_for registry (done registry store c).store ≡ true
  stays_fit_lem fit = by (take registry store c)
    where
      by : TakenCall registry store c → is_fit_for registry (done registry store c).store ≡ true
      by (unseen i n e) = rw e fit
      by (seen past e) =
          rw (e, store-on clients (decode store) c)
          (sound-fit (left_by clients (decode store) c)
          (sound-left registry bytes c typed store past (decode store) (fit-sound (length clients) store stored fit)))

-- For every registry and every store of bytes, fit or not, and every call whose farm number has 32 bits.
pub demand1 : (registry : List ℕ) → Bytes registry → (store : List ℕ) → Bytes store → (c : Call) → WellTyped c → Demand1 registry store c
demand1 registry bytes store stored c typed = record {
  told = unfit-told registry bytes store stored c typed ∙ past-none registry store c;
  unfit = λ i u. unfit-done registry store c i (first-refused registry store c i u);
  answers = refused-answers registry bytes store stored c typed;
  refused = refused-store registry bytes store stored c typed;
  shown_twice = twice-refused registry bytes store stored c typed;
  stays_fit = stays_fit_lem registry bytes store stored c typed;
  within = (written registry bytes store stored c typed).short;
  sized = (written registry bytes store stored c typed).sized;
  beyond = (written registry bytes store stored c typed).beyond;
}
