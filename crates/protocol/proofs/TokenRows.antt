-- Rows of a table over one registry: what they have in common is computed once, which makes them several times as quick.
--
-- In order: what is computed of a call that is past refusals 1 to 4 over a registry of these clients; that it then agrees (`Cases`).
-- Assumes nothing.
use Prim.Native.Nat.{ℕ, max}
use mathlib.Core.Path.{◌≡◌, sym, ap, ◌∙◌, subst}
use mathlib.Core.Bool.{Bool, true, false, not, ◌&&◌}
use mathlib.Core.List.{List}
use Rattle.std.specs.Prelude.{Ok}
use borrow.Author.Tests.{not-true}
use lib.Dec.{leb, ltb}
use lib.ListN.{length}
use Rattle.octets.proofs.Booleans.{and_left, and_right, and-three}
use Rattle.client_registry.specs.Registry.{Client, fit_registry, clients_of}
use Rattle.token_store.specs.Layout.{latest_time}
use Rattle.protocol.specs.Answers.{Decision}
use Rattle.protocol.specs.Refusals.{first_of}
use Rattle.protocol.proofs.Cases.{Case, AnswerTo, store_of, endpoint_of, admit_by, all_of, is_writable, fit_ledger, Result, result_by, agreements, blank, agrees, Row, row}

-- no refusal from 1 to 4 applies
abbrev pub is_past : ℕ → Case → Bool
is_past clients c = not ((endpoint_of c.call).unfit (blank c)) && fit_ledger clients c.store && not (ltb latest_time c.clock)

abbrev pub result_on : List Client → (c : Case) → Result (AnswerTo c.call)
result_on clients c =
    let t = max c.clock c.store.time in
    let served = (endpoint_of c.call).serve clients t (store_of c.store).slots (blank c).random in
    record { answer = served.answer; text = served.text; after = record { time = t; slots = served.slots } }

abbrev agrees_by : (c : Case) → Result (AnswerTo c.call) → Bool
agrees_by c r = is_writable c.store && (leb (length c.text) (length (blank c).output) && all_of (agreements c r))

abbrev pub agrees_on : List Client → Case → Bool
agrees_on clients c = is_past (length clients) c && agrees_by c (result_on clients c)

admitted : (unfit registry_fit store_fit : Bool) (clock : ℕ)
    → unfit ≡ false → registry_fit ≡ true → store_fit ≡ true → ltb latest_time clock ≡ false
    → admit_by unfit registry_fit store_fit clock ≡ Ok tt
unfolding first_of
admitted unfit registry_fit store_fit clock u r s c = rw (u, r, s, c)

module _ (c : Case) (fit : fit_registry c.registry ≡ true) where
  known : agrees_on (clients_of c.registry) c ≡ true → agrees c ≡ true
  known e =
      let count : ℕ = length (clients_of c.registry) in
      let unfit : Bool = (endpoint_of c.call).unfit (blank c) in
      let late : Bool = ltb latest_time c.clock in
      let agreed : Bool = agrees_by c (result_on (clients_of c.registry) c) in
      let past = and-three (not unfit) (fit_ledger count c.store) (not late) (and_left (is_past count c) agreed e) in
      let granted =
      admitted unfit (fit_registry c.registry) (fit_ledger count c.store) c.clock (not-true unfit past.0) fit past.1
      (not-true late past.2)
      in
      ap (λ (d : Decision). agrees_by c (result_by (endpoint_of c.call) c.registry (store_of c.store) c.clock (blank c).random d)) granted
      ∙ and_right (is_past count c) agreed e

  pub row_on : (clients : List Client) → clients_of c.registry ≡ clients → agrees_on clients c ≡ true → Row
  row_on clients e a = row c (known (subst (λ (cs : List Client). agrees_on cs c ≡ true) (sym e) a))
