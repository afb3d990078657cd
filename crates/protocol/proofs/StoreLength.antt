-- A store of another length than a store has, whatever its bytes are, is refusal 3 alone at every endpoint: output and store stay as
-- they were, the length is 0, and there is no challenge. For the registry and buffers are fit, so that the first refusal that applies
-- is this one. "an old ledger is refusal 3": the length of one with 512 slots is such a length.
--
-- Taken over, with zero bytes behind it, an old store is a store: the check answers each token by the time and the slots that the old
-- one had.
-- Assumes nothing.
use Prim.Native.Nat.{ℕ, ◌≤◌, max}
use mathlib.Core.Path.{◌≡◌, refl}
use mathlib.Core.Bool.{true, false}
use mathlib.Core.List.{List, []}
use Rattle.std.specs.Prelude.{Err}
use native.Mathlib.Omega.{arith}
use borrow.Author.Tests.{le-ltb}
use lib.ListN.{length}
use Rattle.encoding.specs.Hex.{read_handle}
use Rattle.client_registry.specs.Registry.{clients_of, fit_registry}
use Rattle.token_store.specs.Layout.{store_size, slot_count, slot_start, latest_time}
use Rattle.token_store.specs.Store.{sought_key}
use Rattle.token_store.specs.declared.Sought.TheVariants.{Access as sought_access}
use Rattle.token_store.proofs.Fits.{unfit-size}
use Rattle.token_store.proofs.Longer.{longer, time_before, slots_before, was_fit}
use Rattle.token_store.proofs.LongerStores.{longer-time, longer-fit, longer-finds}
use Rattle.protocol.specs.Refusals.{first_of}
use Rattle.protocol.specs.Granting.{check_slots}
use Rattle.protocol.specs.Outcomes.{Endpoint, Handed, outcome, outcome_by, admit, authorization_endpoint, token_endpoint, revocation_endpoint, check_endpoint, authorization_outcome, token_outcome, revocation_outcome, check_outcome, without_random, clock_alone, serve_check}
use Rattle.protocol.specs.declared.Refusal.TheVariants.{Unfit}
use Rattle.protocol.specs.declared.Input.TheVariants.{Store}
use Rattle.protocol.specs.declared.CheckAnswer.TheVariants.{Refused}

module _ (registry store : List ℕ) (fit : fit_registry registry ≡ true) (other : length store ≡ store_size → ⊥) where
  refused-by : {A : Type 0} (endpoint : Endpoint A) (handed : Handed) → endpoint.unfit handed ≡ false
      → outcome endpoint registry store handed ≡ record { answer = endpoint.refuse (Unfit Store); output = handed.output; store = store }
  unfolding outcome admit first_of outcome_by
  refused-by endpoint handed roomy = rw (roomy, fit, unfit-size (length (clients_of registry)) store other)

  pub authorization-refused : (query : List ℕ) (decision farm : ℕ) (handed : Handed)
      → length handed.random ≡ 20 → 1024 ≤ length handed.output
      → authorization_outcome query decision farm registry store handed
      ≡ record { answer = record { decision = Err (Unfit Store); length = 0 }; output = handed.output; store = store }
  authorization-refused query decision farm handed twenty room =
      refused-by (authorization_endpoint query decision farm) handed (rw (le-ltb (length handed.output) 1024 room, twenty))

  pub token-refused : (header body : List ℕ) (handed : Handed) → length handed.random ≡ 40 → 1024 ≤ length handed.output
      → token_outcome header body registry store handed
      ≡ record { answer = record { decision = Err (Unfit Store); challenge = false; length = 0 }; output = handed.output; store = store }
  token-refused header body handed forty room =
      refused-by (token_endpoint header body) handed (rw (le-ltb (length handed.output) 1024 room, forty))

  pub revocation-refused : (header body : List ℕ) (clock : ℕ) (output : List ℕ) → 1024 ≤ length output
      → revocation_outcome header body registry store clock output
      ≡ record { answer = record { decision = Err (Unfit Store); challenge = false; length = 0 }; output = output; store = store }
  revocation-refused header body clock output room =
      refused-by (revocation_endpoint header body) (without_random clock output) (le-ltb (length output) 1024 room)

  pub check-refused : (presented : List ℕ) (clock : ℕ)
      → check_outcome presented registry store clock ≡ record { answer = Refused (Unfit Store); output = []; store = store }
  check-refused presented clock = refused-by (check_endpoint presented) (clock_alone clock) refl

-- 8 + 512 * 67
pub old-length : (store : List ℕ) → length store ≡ 34312 → length store ≡ store_size → ⊥
old-length store old new = omega (arith, old, new)

-- ---- an old store, taken over

module _ (registry b : List ℕ) (count : ℕ) (size : length b ≡ slot_start count) (fewer : count ≤ slot_count) where
  pub longer-checked : (presented : List ℕ) (clock : ℕ)
      → fit_registry registry ≡ true → was_fit b count (length (clients_of registry)) ≡ true → clock ≤ latest_time
      → (check_outcome presented registry (longer b count) clock).answer
      ≡ check_slots (max clock (time_before b count)) (slots_before b count) (read_handle presented)
  unfolding outcome admit first_of outcome_by serve_check check_slots
  longer-checked presented clock fit was soon =
      rw (
        fit,
        longer-fit b count size fewer (length (clients_of registry)),
        was,
        le-ltb latest_time clock soon,
        longer-time b count size fewer,
        longer-finds b count size fewer (sought_key sought_access (read_handle presented)),
      )
