-- For contracts inside; the exports' contracts do not cite it.
--
-- A call that is let in, and what serving it comes to: protocol's `outcome` in the steps in which the code takes it.
use Rattle.std.specs.Prelude.{ℕ, ◌≤◌, ◌≡◌, Bool, true, List, length, Result, Ok, Err}
use Rattle.std.proofs.lemmas.List.Edits.{sets}
use Rattle.client_registry.specs.Registry.{fit_registry}
use Rattle.token_store.specs.Layout.{store_size, latest_time}
use Rattle.token_store.specs.Store.{Store, decode, call_time, with_time}
use Rattle.protocol.specs.Answers.{Decision}
use Rattle.protocol.specs.declared.Refusal.{Refusal}
use Rattle.protocol.specs.Outcomes.{admit, Served}

-- ---- the way in

abbrev pub admission_by : Decision → ℕ → Result ℕ Refusal
admission_by (Ok tt) t = Ok t
admission_by (Err refusal) t = Err refusal

-- a refusal leaves the store as it is; past it the call's time is stored
abbrev pub Leaves : List ℕ → List ℕ → Result ℕ Refusal → Type 0
Leaves before after (Err refusal) = after ≡ before
Leaves before after (Ok t) = decode after ≡ with_time (decode before) t

pub record Entered (unfit : Bool) (registry before : List ℕ) (clock : ℕ) (after : List ℕ) (r : Result ℕ Refusal) : Type 0 where
  pub answer : r ≡ admission_by (admit unfit registry before clock) (call_time (decode before) clock)
  pub store : Leaves before after r

-- what is known of a call that is let in
pub record Ready (registry store : List ℕ) (t : ℕ) : Type 0 where
  pub fit : fit_registry registry ≡ true
  pub size : length store ≡ store_size
  pub early : t ≤ latest_time

-- ---- the way out

-- the answer r, and what is left in the store and in the output, are those of `served`
pub record Serves {Answer : Type 0} (served : Served Answer) (before after : Store) (out written : List ℕ) (r : Answer) : Type 0 where
  pub answer : r ≡ served.answer
  pub text : written ≡ sets out 0 served.text
  pub store : after ≡ record { time = before.time; slots = served.slots }
