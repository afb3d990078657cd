-- Laws of the steps of a grant, and of what follows from a plan (protocol's Granting.antt).
--
-- In order: what the search for the client's own code or token says; what a refused exchange leaves; what a revocation leaves; the kinds of
-- a code; the plan of an exchange by the slot found; what follows from a plan's reasons, where one applies, where none does, and where
-- others are passed before them; what is decided.
--
-- Not here: how a list of reasons ends (protocol's `Reasons`).
-- Assumes nothing.
use mathlib.Core.Path.{◌≡◌, refl, sym, ap, ◌∙◌}
use mathlib.Core.Bool.{Bool, true, false, cond, not, ◌&&◌, and-false}
use mathlib.Core.List.{List, [], ◌∷◌, ◌++◌}
use borrow.Author.Tests.{eq-eqb, ne_eqb}
use lib.Dec.{leb, eqb, lit≤}
use lib.ListN.{set}
use Rattle.std.specs.Prelude.{Option, Some, None, is_some, Result, Ok, Err, is_ok, IfErr}
use Prim.Native.Nat.{ℕ, ◌≤◌}
use Rattle.octets.specs.Search.{index_where, any}
use Rattle.token_store.specs.Store.{Store, with_slots, code_kind, kind_refresh, kind_last, free_slot, is_live, origin_of, is_bound_code, spent_code, is_sought, sought_key, without_tokens, found_at, slot_of, decode}
use Rattle.token_store.specs.declared.Slot.{Slot}
use Rattle.token_store.specs.declared.Sought.{Sought}
use Rattle.token_store.specs.declared.Sought.TheVariants.{Code as sought_code, Spent as sought_spent, Access as sought_access, Token as sought_token}
use Rattle.token_store.proofs.Slots.{free-dead}
use Rattle.token_store.proofs.Scans.{First as FirstSlot, found_first, found_none}
use Rattle.protocol.specs.declared.ErrorWord.TheVariants.{InvalidGrant}
use Rattle.protocol.specs.declared.Failure.TheVariants.{NoRoom, Clash}
use Rattle.protocol.specs.declared.ExchangeRequest.{ExchangeRequest}
use Rattle.protocol.specs.declared.Refusal.{Refusal}
use Rattle.protocol.specs.declared.Refusal.TheVariants.{Token, Failed}
use Rattle.protocol.specs.Answers.{Decision}
use Rattle.protocol.specs.Refusals.{Reason, when}
use Rattle.protocol.specs.Granting.{Plan, after_reasons, decision_on, slots_by, shown_slot, is_own, first_handle, second_handle, room, is_unverified, any_taken, refused_slots, revoked_slots, exchange_plan}
use Rattle.protocol.proofs.Reasons.{First, first-counts}
use Rattle.granting.specs.declared.Issued.{Issued}
use Rattle.granting.specs.Granted.{granted_with, granted_by, decision_of, Follows, own_at, spent_on, freed_at}

-- ---- the client's own

-- what is presented is in slot i, live and the client's own
pub record Own (t client : ℕ) (sought : Sought) (presented : Option (List ℕ)) (slots : List Slot) (i : ℕ) : Type 0 where
  pub first : FirstSlot (sought_key sought presented) slots i
  pub own : is_own t client (shown_slot sought presented slots) ≡ true

module _ (t client : ℕ) (sought : Sought) (presented : Option (List ℕ)) (b : List ℕ) where
  abbrev owned : Bool
  owned = is_own t client (shown_slot sought presented (decode b).slots)

  abbrev place : Option ℕ
  place = found_at (index_where (sought_key sought presented) (decode b).slots)

  pub own-found : (i : ℕ) → Some i ≡ own_at t client sought presented (decode b).slots → Own t client sought presented (decode b).slots i
  own-found i e = by owned refl e
    where
      by : (q : Bool) → owned ≡ q → Some i ≡ cond q place None → Own t client sought presented (decode b).slots i
      by true o e = record { first = found_first (sought_key sought presented) b i (sym e); own = o }
      by false o e = cc

  -- whose the slot found is, what is presented is
  pub owned-there : {i : ℕ} → place ≡ Some i → owned ≡ is_own t client (slot_of (decode b) i)
  owned-there {i} e = ap (is_own t client) (found_first (sought_key sought presented) b i e).taken

  -- the free slot that stands for none is nobody's
  pub none-own : place ≡ None → owned ≡ false
  none-own e = rw ((found_none (sought_key sought presented) b e).taken, free-dead t)

  pub own-none : None ≡ own_at t client sought presented (decode b).slots → owned ≡ false
  own-none e = by owned refl e
    where
      by : (q : Bool) → owned ≡ q → None ≡ cond q place None → owned ≡ false
      by true o e = none-own (sym e)
      by false o e = o

  -- whether there is one, by what a search answers
  pub found-any : (o : Option ℕ) → o ≡ place → any (sought_key sought presented) (decode b).slots ≡ is_some o
  found-any (Some i) e = (found_first (sought_key sought presented) b i (sym e)).some
  found-any None e = (found_none (sought_key sought presented) b (sym e)).none

  pub own-any : (o : Option ℕ) → o ≡ own_at t client sought presented (decode b).slots → owned ≡ is_some o
  own-any (Some i) e = (own-found i e).own
  own-any None e = own-none e

  -- what is found was presented
  pub own-presented : (o : Option ℕ) → o ≡ own_at t client sought presented (decode b).slots → is_some o ≡ true → presented ≡ None → ⊥
  own-presented (Some i) e found none =
      let passes = rw none at (own-found i e).first.passes in
      let never : false ≡ true = sym (and-false (is_sought sought (slot_of (decode b) i))) ∙ passes in
      cc
  own-presented None e found none = cc

-- ---- what a refused exchange leaves: the slots, where an unspent code has the handle, or no spent one is the client's own

module _ (t client : ℕ) (presented : Option (List ℕ)) (slots : List Slot) where
  pub found-keeps : any (sought_key sought_code presented) slots ≡ true → slots ≡ refused_slots t client presented slots
  found-keeps e = rw e

  pub unowned-keeps : is_own t client (shown_slot sought_spent presented slots) ≡ false → slots ≡ refused_slots t client presented slots
  unowned-keeps e = rw (e, and-false)

  -- else the slots without the tokens that came from the code of the handle presented
  pub again-clears : (handle : List ℕ) → presented ≡ Some handle → any (sought_key sought_code presented) slots ≡ false
      → is_own t client (shown_slot sought_spent presented slots) ≡ true
      → without_tokens sought_token handle slots ≡ refused_slots t client presented slots
  again-clears handle p e o = rw (e, o, p)

-- ---- what a revocation leaves: a token that is freed takes access tokens along where it is a refresh token

module _ (i : ℕ) (token : Slot) (slots : List Slot) where
  pub refresh-freed : token.kind ≡ kind_refresh → without_tokens sought_access (origin_of token) (set slots i free_slot) ≡ freed_at i token slots
  refresh-freed e = rw (eq-eqb token.kind kind_refresh e)

  pub other-freed : (token.kind ≡ kind_refresh → ⊥) → set slots i free_slot ≡ freed_at i token slots
  other-freed n = rw (ne_eqb token.kind kind_refresh n)

-- the slots, where the token presented is not live; else without the one that is found, which is the client's or another's

module _ (t : ℕ) (presented : Option (List ℕ)) (slots : List Slot) where
  abbrev token : Slot
  token = shown_slot sought_token presented slots

  pub dead_keeps : is_live t token ≡ false → slots ≡ revoked_slots t presented slots
  dead_keeps e = rw e

  pub live-frees : (i : ℕ) → FirstSlot (sought_key sought_token presented) slots i → is_live t token ≡ true
      → freed_at i token slots ≡ revoked_slots t presented slots
  live-frees i first e = rw (e, first.replaced free_slot)

  module _ (client : ℕ) (e : is_live t token ≡ true) where
    pub others-token : (token.client ≡ client → ⊥) → (is_live t token && not (eqb token.client client)) ≡ true
    others-token n = rw (e, ne_eqb token.client client n)

    pub own-token : token.client ≡ client → (is_live t token && not (eqb token.client client)) ≡ false
    own-token o = rw (e, eq-eqb token.client client o)

-- ---- the kinds of a code are kinds

pub code-kind-bound : (bound challenged : Bool) → code_kind bound challenged ≤ kind_last
code-kind-bound true true = lit≤ tt
code-kind-bound true false = lit≤ tt
code-kind-bound false true = lit≤ tt
code-kind-bound false false = lit≤ tt

-- ---- an exchange whose code is found in slot i: its plan, by that slot

pub exchange-found : (t : ℕ) (b random : List ℕ) (presented answered : Option (List ℕ)) (r : ExchangeRequest) (i : ℕ) (code : Slot) → code ≡ slot_of (decode b) i
    → Some i ≡ own_at t r.client sought_code presented (decode b).slots
    → let slots = (decode b).slots in
    exchange_plan t slots random presented answered r
    ≡ record {
      reasons =
          when false (Token InvalidGrant)
          ∷ when (is_bound_code code && not r.again) (Token InvalidGrant)
          ∷ when (is_unverified answered code) (Token InvalidGrant)
          ∷ when (not (leb 2 (room t slots))) (Failed NoRoom)
          ∷ when (any_taken (first_handle random) (second_handle random) slots) (Failed Clash)
          ∷ [];
      granted = spent_on t (first_handle random) (second_handle random) code (set slots i (spent_code code));
      denied = slots;
      scope = code.scope;
      brings_refresh = true;
    }
unfolding exchange_plan
exchange-found t b random presented answered r i code e found =
    let own = own-found t r.client sought_code presented b i found in
    rw (own.own, own.first.some, own.first.taken, ← e, own.first.replaced (spent_code code))

-- ---- what follows from the reasons

module _ {plan : Plan} {before after : Store} where
  pub refuses : {x : Refusal} → First plan.reasons (Err x) → after ≡ with_slots before plan.denied → Follows plan before (Err x) after
  unfolding granted_by slots_by
  refuses f e = record { answer = rw (first-counts f); store = rw (first-counts f) e }

  pub grants : {issued : Issued} → First plan.reasons (Ok tt) → Ok issued ≡ granted_with plan.scope plan.brings_refresh
      → after ≡ with_slots before plan.granted
      → Follows plan before (Ok issued) after
  unfolding granted_by slots_by
  grants f a e = record { answer = rw (first-counts f) a; store = rw (first-counts f) e }

-- reasons that are passed leave what follows from the plan behind them
module _ {plan : Plan} {before after : Store} {r : Result Issued Refusal} where
  pub follows-later : (rs : List Reason) → First (rs ++ plan.reasons) (decision_on plan)
      → Follows plan before r after → Follows (after_reasons rs plan) before r after
  unfolding granted_by slots_by
  follows-later rs past f =
      let same : decision_on plan ≡ decision_on (after_reasons rs plan) = sym (first-counts past) in
      record {
        answer = f.answer ∙ answers (decision_on plan) ∙ ap (λ (d : Decision). granted_by d (after_reasons rs plan)) same;
        store = f.store ∙ ap (with_slots before) (slots (decision_on plan) ∙ ap (λ (d : Decision). slots_by d (after_reasons rs plan)) same);
      }
    where
      answers : (d : Decision) → granted_by d plan ≡ granted_by d (after_reasons rs plan)
      answers (Ok tt) = refl
      answers (Err refusal) = refl

      slots : (d : Decision) → slots_by d plan ≡ slots_by d (after_reasons rs plan)
      slots (Ok tt) = refl
      slots (Err refusal) = refl

-- what is decided, of what was granted
pub follows-decision : {plan : Plan} {before : Store} {r : Result Issued Refusal} {after : Store} → Follows plan before r after
    → decision_of r ≡ decision_on plan
unfolding granted_by
follows-decision {plan} {before} {r} {after} f = ap decision_of f.answer ∙ by (decision_on plan)
  where
    by : (d : Decision) → decision_of (granted_by d plan) ≡ d
    by (Ok tt) = refl
    by (Err refusal) = refl

-- a `map` that drops what is issued leaves the decision
pub map-decides : (r : Result Issued Refusal) (d : Decision) → is_ok d ≡ is_ok r → IfErr r (λ e. d ≡ Err e) → d ≡ decision_of r
map-decides (Ok issued) (Ok tt) same e = refl
map-decides (Ok issued) (Err x) same e = cc
map-decides (Err x) d same e = e
