-- Demand 1: one claim about every call, on any registry and any store, fit or not.
--
-- "Whatever bytes, tables and clock it is handed, the desk answers and stops. It checks its own inputs and trusts no
-- caller to have done so.": nothing is asked of a call, a registry or a store but that its bytes are bytes and a farm
-- number has 32 bits. Which inputs are unfit, and what is answered then, the claim says in its own words.
use Rattle.std.specs.Prelude.{ℕ, ◌^◌, ◌≤◌, ◌<◌, max, ◌≡◌, Bool, true, false, cond, not, ◌&&◌, ◌||◌, List, [], ◌∷◌, ◌++◌, ltb, eqb, length, take, drop, replicate, Ok, Err}
use Rattle.std.proofs.lemmas.List.Edits.{sets}
use Rattle.octets.specs.Text.{bytes}
use Rattle.octets.specs.Search.{any, first_or}
use Rattle.octets.specs.BigEndian.{big_endian, big_endian_bytes}
use Rattle.form.specs.Content.{form_value}
use Rattle.client_registry.specs.Registry.{Client, fit_registry, clients_of}
use Rattle.client_registry.specs.Lookup.{client_at}
use Rattle.token_store.specs.Layout.{time_size, slot_size, slot_count}
use Rattle.token_store.specs.Store.{free_slot, concat, tabulate, slot_bytes, decode}
use Rattle.token_store.specs.Fit.{fit_store}
use Rattle.token_store.specs.declared.Slot.{Slot}
use Rattle.protocol.specs.declared.Input.{Input}
use Rattle.protocol.specs.declared.Input.TheVariants.{Buffers, Registry, Store, Clock}
use Rattle.protocol.specs.declared.Refusal.{Refusal}
use Rattle.protocol.specs.declared.ErrorWord.TheVariants.{InvalidGrant}
use Rattle.protocol.specs.declared.Refusal.TheVariants.{Unfit, Token}
use Rattle.protocol.specs.declared.CheckAnswer.TheVariants.{Refused}
use Rattle.protocol.specs.Answers.{input_number, refusal_status, Decision}
use Rattle.protocol.specs.Authorization.{query_client, location_text}
use Rattle.protocol.specs.Token.{refusal_reply, challenges}
use Rattle.protocol.specs.Outcomes.{Handed, Outcome}
use Rattle.history.specs.Calls.{Call, authorization, token, revocation, check, handed_to}
use Rattle.history.specs.Contents.{value_of, is_exchange, caller, is_admitted, code_shown}
use Rattle.history.specs.Slots.{is_text_of, holds_token_from}
use Rattle.history.specs.Server.{Answer, authorization_answer, token_answer, check_answer, outcome_of, is_unfit, is_granted, length_of}

-- ---- unfit inputs: refusals 1 to 4

-- "output below 1,024, or random bytes not 20 (token: 40)"; of a revocation "refusal 1 is for the output alone"
abbrev pub output_unfit : List ℕ → Bool
output_unfit output = ltb (length output) 1024

abbrev pub handed_unfit : ℕ → Handed → Bool
handed_unfit random handed = output_unfit handed.output || not (eqb (length handed.random) random)

unfoldable pub buffers_unfit : Call → Bool
buffers_unfit (authorization query decision farm handed) = handed_unfit 20 handed
buffers_unfit (token header body handed) = handed_unfit 40 handed
buffers_unfit (revocation header body clock output) = output_unfit output
buffers_unfit (check presented clock) = false

abbrev pub inputs : List Input
inputs = Buffers ∷ Registry ∷ Store ∷ Clock ∷ []

-- a store is fit for a registry
abbrev pub is_fit_for : List ℕ → List ℕ → Bool
is_fit_for registry store = fit_store (length (clients_of registry)) store

unfoldable pub is_unfit_input : List ℕ → List ℕ → Call → Input → Bool
is_unfit_input registry store c Buffers = buffers_unfit c
is_unfit_input registry store c Registry = not (fit_registry registry)
is_unfit_input registry store c Store = not (is_fit_for registry store)
is_unfit_input registry store c Clock = ltb (2 ^ 40) (handed_to c).clock

-- it is unfit, and none is that counts before it: "The first that applies counts."
pub record FirstUnfit (registry store : List ℕ) (c : Call) (i : Input) : Type 0 where
  pub unfit : is_unfit_input registry store c i ≡ true
  pub first : (j : Input) → input_number j < input_number i → is_unfit_input registry store c j ≡ false

-- the answer: a number alone, with length 0 and no challenge, where there is one
abbrev pub unfit_token : Input → Answer
unfit_token i = token_answer (record { decision = Err (Unfit i); challenge = false; length = 0 })

unfoldable pub unfit_answer : Call → Input → Answer
unfit_answer (authorization query decision farm handed) i = authorization_answer (record { decision = Err (Unfit i); length = 0 })
unfit_answer (token header body handed) i = unfit_token i
unfit_answer (revocation header body clock output) i = unfit_token i
unfit_answer (check presented clock) i = check_answer (Refused (Unfit i))

-- and nothing is written
abbrev pub unfit_outcome : List ℕ → Call → Input → Outcome Answer
unfit_outcome store c i = record { answer = unfit_answer c i; output = (handed_to c).output; store = store }

-- ---- later refusals, by the words of document 01 (demand 2): what is written depends on the refusal and, where it is a
-- redirect, on where it leads; a challenge, on whether a header came

-- the check has none
unfoldable pub decision_in : Answer → Decision
decision_in (authorization_answer a) = a.decision
decision_in (token_answer a) = a.decision
decision_in (check_answer a) = Ok tt

unfoldable pub refusal_text : List Client → Call → Refusal → List ℕ
refusal_text clients (authorization query decision farm handed) r =
    location_text (client_at clients (query_client clients query)).redirect (form_value query (bytes "state")) [] (Err r)
refusal_text clients (token header body handed) r = refusal_reply r
refusal_text clients (revocation header body clock output) r = refusal_reply r
refusal_text clients (check presented clock) r = []

-- an answer to a call that may have come with a header
abbrev pub refused_token : List ℕ → Refusal → ℕ → Answer
refused_token header r long = token_answer (record { decision = Err r; challenge = challenges (refusal_status r) header; length = long })

unfoldable pub refusal_answer : Call → Refusal → ℕ → Answer
refusal_answer (authorization query decision farm handed) r long = authorization_answer (record { decision = Err r; length = long })
refusal_answer (token header body handed) r long = refused_token header r long
refusal_answer (revocation header body clock output) r long = refused_token header r long
refusal_answer (check presented clock) r long = check_answer (Refused r)

-- ---- the one refusal that changes more: "the same client, authenticated, presents a live spent code (sought only where no unspent
-- code has its handle)"

-- a code of this text that is not spent, kinds 1 and 2, and with a challenge 6 and 7; and one that is, kind 5
abbrev pub is_unspent : List ℕ → Slot → Bool
is_unspent text s = any (λ kind. eqb s.kind kind) (1 ∷ 2 ∷ 6 ∷ 7 ∷ []) && is_text_of text s.handle

abbrev pub is_spent : List ℕ → Slot → Bool
is_spent text s = eqb s.kind 5 && is_text_of text s.handle

-- of the spent codes the lowest counts; where there is none, a free slot, which is never live
unfoldable pub is_shown_twice : List Client → List ℕ → Call → Bool
is_shown_twice clients store (authorization query decision farm handed) = false
is_shown_twice clients store (token header body handed) =
    let text = value_of body (bytes "code") in
    let slots = (decode store).slots in
    let spent = first_or free_slot (is_spent text) slots in
    let t = max handed.clock (big_endian (take time_size store)) in
    is_admitted clients header body && is_exchange body
    && (not (any (is_unspent text) slots) && (ltb t spent.expiry && eqb spent.client (caller clients header body)))
is_shown_twice clients store (revocation header body clock output) = false
is_shown_twice clients store (check presented clock) = false

-- "every token with that origin is cleared": its slot is zero, and no other byte changes
abbrev pub without_tokens_from : List ℕ → List ℕ → List ℕ
without_tokens_from text store =
    take time_size store
    ++ concat (tabulate slot_count (λ i. cond (holds_token_from text (slot_bytes store i)) (replicate slot_size 0) (slot_bytes store i)))

-- what a refusal leaves of a store, but for the clock
abbrev pub after_refusal : List Client → List ℕ → Call → List ℕ
after_refusal clients store c = cond (is_shown_twice clients store c) (without_tokens_from (code_shown c) store) store

-- ---- what any answer leaves

-- a store with this clock seen, if it is the highest: the first eight bytes hold the highest, and no other byte changes
abbrev pub with_clock : ℕ → List ℕ → List ℕ
with_clock clock store = big_endian_bytes time_size (max clock (big_endian (take time_size store))) ++ drop time_size store

-- ---- the claim

module _ (registry store : List ℕ) (c : Call) where
  -- what the call does, and the output that it is handed
  abbrev pub done : Outcome Answer
  done = outcome_of registry store c

  abbrev pub output : List ℕ
  output = (handed_to c).output

  pub record Demand1 : Type 0 where
    -- "Unfit buffers, register, ledger or clock get refusals 1 to 4", and nothing else gets them
    pub told : is_unfit done.answer ≡ any (is_unfit_input registry store c) inputs
    -- "and change nothing at all"
    pub unfit : (i : Input) → FirstUnfit registry store c i → done ≡ unfit_outcome store c i
    -- "every later refusal has its one fixed answer"
    pub answers : (r : Refusal) → is_unfit done.answer ≡ false → decision_in done.answer ≡ Err r
        → let text = refusal_text (clients_of registry) c r in
        (done.answer ≡ refusal_answer c r (length text)) × (done.output ≡ sets output 0 text)
    -- "and changes nothing in the ledger but the highest clock seen"; nor does any answer of the check. "that one refusal changes
    -- more than the mark": a code that is shown twice
    pub refused : is_unfit done.answer ≡ false → is_granted done.answer ≡ false
        → done.store ≡ with_clock (handed_to c).clock (after_refusal (clients_of registry) store c)
    -- of which "the answer is still `invalid_grant`"
    pub shown_twice : is_unfit done.answer ≡ false → is_shown_twice (clients_of registry) store c ≡ true
        → decision_in done.answer ≡ Err (Token InvalidGrant)
    -- a fit store stays fit, whatever is answered
    pub stays_fit : is_fit_for registry store ≡ true → is_fit_for registry done.store ≡ true
    -- what is answered is within the output, which keeps its length and every byte beyond what is answered
    pub within : length_of done.answer ≤ length output
    pub sized : length done.output ≡ length output
    pub beyond : drop (length_of done.answer) done.output ≡ drop (length_of done.answer) output
