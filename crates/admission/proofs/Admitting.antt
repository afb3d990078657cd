-- Laws of a call's way in and out.
--
-- In order: what the fitness of a registry tells; a call that is let in (`Admitted`), or not; what is known of it then; an
-- outcome from its steps, for any endpoint.
-- Assumes nothing.
use Prim.Native.Nat.{ℕ, ◌≤◌}
use mathlib.Core.Path.{◌≡◌, refl, sym, ap, ◌∙◌}
use mathlib.Core.Bool.{Bool, true, false, not}
use mathlib.Core.List.{List}
use Rattle.std.specs.Prelude.{Some, None, Result, Ok, Err}
use native.Mathlib.Omega.{arith}
use borrow.Author.Tests.{not-false, ltb-false, eqb-true}
use lib.Dec.{eqb, lit<}
use lib.ListN.{length}
use Rattle.octets.specs.Lists.{Bytes}
use Rattle.octets.proofs.Booleans.{or-none}
use Rattle.client_registry.specs.Registry.{clients_of, fit_registry, fitness_of, count_if}
use Rattle.token_store.specs.Layout.{latest_time, store_size}
use Rattle.token_store.specs.Store.{call_time, decode, encode, with_time}
use Rattle.token_store.specs.Fit.{fit_store}
use Rattle.token_store.proofs.Codec.{encode-decode}
use Rattle.token_store.proofs.Fits.{fit-size, fit-time}
use Rattle.protocol.specs.declared.Refusal.{Refusal}
use Rattle.protocol.specs.declared.Refusal.TheVariants.{Unfit}
use Rattle.protocol.specs.declared.Input.TheVariants.{Buffers}
use Rattle.protocol.specs.Limits.{least_output}
use Rattle.protocol.specs.Answers.{is_grant, Decision}
use Rattle.protocol.specs.Outcomes.{unfit_reasons, unfit_output, unfit_buffers, Handed, Endpoint, admit, outcome_by, outcome}
use Rattle.protocol.proofs.Reasons.{unrefused}
use Rattle.admission.specs.Entering.{admission_by, Entered, Ready, Serves}

-- ---- what the fitness of a registry tells

module _ (registry : List ℕ) where
  pub told-clients : (n : ℕ) → Some n ≡ fitness_of registry → (fit_registry registry ≡ true) × (n ≡ length (clients_of registry))
  told-clients n e = by (fit_registry registry) refl e
    where
      by : (q : Bool) → fit_registry registry ≡ q → Some n ≡ count_if q registry → (fit_registry registry ≡ true) × (n ≡ length (clients_of registry))
      by true f e = (f, cc)
      by false f e = cc

  pub told-unfit : None ≡ fitness_of registry → fit_registry registry ≡ false
  told-unfit e = by (fit_registry registry) refl e
    where
      by : (q : Bool) → fit_registry registry ≡ q → None ≡ count_if q registry → fit_registry registry ≡ false
      by true f e = cc
      by false f e = f

-- ---- a call that is let in

pub record Admitted (unfit : Bool) (registry store : List ℕ) (clock : ℕ) : Type 0 where
  pub buffers : unfit ≡ false
  pub registry-fit : fit_registry registry ≡ true
  pub store-fit : fit_store (length (clients_of registry)) store ≡ true
  pub early : clock ≤ latest_time

pub admitted : (unfit : Bool) (registry store : List ℕ) (clock : ℕ) → Ok tt ≡ admit unfit registry store clock → Admitted unfit registry store clock
unfolding admit is_grant
admitted unfit registry store clock e =
    let passed = unrefused (unfit_reasons unfit registry store clock) (ap is_grant (sym e)) in
    record {
      buffers = passed 0 (lit< tt);
      registry-fit = not-false (fit_registry registry) (passed 1 (lit< tt));
      store-fit = not-false (fit_store (length (clients_of registry)) store) (passed 2 (lit< tt));
      early = ltb-false latest_time clock (passed 3 (lit< tt));
    }

module _ {unfit : Bool} {registry store : List ℕ} {clock : ℕ} (a : Admitted unfit registry store clock) where
  pub store-size : length store ≡ store_size
  store-size = fit-size (length (clients_of registry)) store a.store-fit

  time-early : call_time (decode store) clock ≤ latest_time
  time-early = omega (arith, fit-time (length (clients_of registry)) store a.store-fit, a.early)

-- the size of an output that is fit, and the sizes of buffers that are
pub fit-output : (output : List ℕ) → unfit_output output ≡ false → least_output ≤ length output
fit-output output e = ltb-false (length output) least_output e

pub record Sized (size : ℕ) (random output : List ℕ) : Type 0 where
  pub exact : length random ≡ size
  pub room : least_output ≤ length output

pub fit-buffers : (size : ℕ) (random output : List ℕ) → unfit_buffers size random output ≡ false → Sized size random output
fit-buffers size random output e =
    let sized = eqb (length random) size in
    let neither = or-none (unfit_output output) (not sized) e in
    record { exact = eqb-true (length random) size (not-false sized neither.1); room = fit-output output neither.0 }

-- ---- the way in, from what it answers

by-admission : (d : Decision) (t u : ℕ) (x : Refusal)
    → (Err x ≡ admission_by d t → d ≡ Err x) × (Ok u ≡ admission_by d t → (d ≡ Ok tt) × (u ≡ t))
by-admission (Ok tt) t u x = (λ e. (cc), λ e. (refl, cc))
by-admission (Err y) t u x = (λ e. (cc), λ e. (cc))

module _ {unfit : Bool} {registry store : List ℕ} {clock : ℕ} {after : List ℕ} where
  pub entered-refused : (x : Refusal) → Entered unfit registry store clock after (Err x) → admit unfit registry store clock ≡ Err x
  entered-refused x e = (by-admission (admit unfit registry store clock) (call_time (decode store) clock) 0 x).0 e.answer

  module _ {t : ℕ} (e : Entered unfit registry store clock after (Ok t)) where
    pub entered-grant : (admit unfit registry store clock ≡ Ok tt) × (t ≡ call_time (decode store) clock)
    entered-grant = (by-admission (admit unfit registry store clock) (call_time (decode store) clock) t (Unfit Buffers)).1 e.answer

    pub entered-admitted : Admitted unfit registry store clock
    entered-admitted = admitted unfit registry store clock (sym entered-grant.0)

    pub entered-ready : length after ≡ length store → Ready registry after t
    entered-ready k = record {
      fit = entered-admitted.registry-fit;
      size = k ∙ store-size entered-admitted;
      early = omega (arith, entered-grant.1, time-early entered-admitted);
    }

-- ---- the outcome from its steps

-- a call at an endpoint is let in, or not
abbrev pub Enters : {Answer : Type 0} → Endpoint Answer → List ℕ → List ℕ → Handed → List ℕ → Result ℕ Refusal → Type 0
Enters endpoint registry store handed after r = Entered (endpoint.unfit handed) registry store handed.clock after r

module _ {Answer : Type 0} (endpoint : Endpoint Answer) (registry store : List ℕ) (handed : Handed) where
  pub outcome-refused : (x : Refusal) (after : List ℕ) → Enters endpoint registry store handed after (Err x)
      → record { answer = endpoint.refuse x; output = handed.output; store = after } ≡ outcome endpoint registry store handed
  unfolding outcome outcome_by
  outcome-refused x after e = rw (e.store, entered-refused x e)

  module _ {t : ℕ} {begun after : List ℕ} (e : Enters endpoint registry store handed begun (Ok t)) where
    -- the bytes after a call that was served on the slots: those of the store that they decode to
    pub outcome-served : (r : Answer) (written : List ℕ)
        → Serves (endpoint.serve (clients_of registry) t (decode begun).slots handed.random) (decode begun) (decode after)
        handed.output written r
        → length after ≡ store_size → Bytes after → record { answer = r; output = written; store = after } ≡ outcome endpoint registry store handed
    unfolding outcome outcome_by
    outcome-served r written s size bytes =
        let same : t ≡ call_time (decode store) handed.clock = (entered-grant e).1 in
        let left : decode begun ≡ with_time (decode store) t = e.store in
        let served = endpoint.serve (clients_of registry) t (decode begun).slots handed.random in
        let stored : after ≡ encode (record { time = (decode begun).time; slots = served.slots }) =
        sym (encode-decode after size bytes) ∙ ap encode s.store
        in
        rw ((entered-grant e).0, s.answer, s.text, stored, left, same)
