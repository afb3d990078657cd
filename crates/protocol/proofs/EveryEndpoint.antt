-- What is the same at every endpoint, by computation: which of refusals 1 to 4 apply and in what order they count, and what is stored and
-- written around what an endpoint serves. The cases show the same of whole calls, by way of a law; here the definitions alone compute.
-- Assumes nothing.
use Prim.Native.Nat.{ℕ, ◌+◌, ◌^◌}
use mathlib.Core.Path.{◌≡◌, refl}
use mathlib.Core.Bool.{Bool, true, false}
use mathlib.Core.List.{List, [], ◌∷◌, ◌++◌, map}
use Rattle.std.specs.Prelude.{Ok, Err}
use lib.ListN.{replicate}
use Rattle.octets.specs.BigEndian.{big_endian_from, big_endian_bytes}
use Rattle.client_registry.specs.Sample.{sample_registry}
use Rattle.token_store.specs.Store.{cut, concat, tabulate, decode_slot, decode, encode}
use Rattle.token_store.specs.Fit.{fit_store}
use Rattle.protocol.specs.declared.Refusal.{Refusal}
use Rattle.protocol.specs.declared.Refusal.TheVariants.{Unfit}
use Rattle.protocol.specs.declared.Input.TheVariants.{Store}
use Rattle.protocol.specs.Answers.{refusal_number}
use Rattle.protocol.specs.Refusals.{Reason}
use Rattle.protocol.specs.Outcomes.{Endpoint, Outcome, unfit_reasons, outcome_by}
use Rattle.protocol.proofs.Computing.{text_definitions, registry_definitions, slot_definitions}

-- ---- refusals 1 to 4: a reason's number where it applies, else 0

number : Bool → Refusal → ℕ
number true r = refusal_number r
number false r = 0

applying : List Reason → List ℕ
applying reasons = map (λ (r : Reason). number r.applies r.refusal) reasons

-- all of them; the store alone and then the clock too, of a store that is no bytes
reasons-in-order : map applying
    (unfit_reasons true [] [] (2 ^ 40 + 1)
    ∷ unfit_reasons false [] [] (2 ^ 40 + 1)
    ∷ unfit_reasons false sample_registry [] (2 ^ 40 + 1)
    ∷ unfit_reasons false sample_registry [] (2 ^ 40)
    ∷ unfit_reasons true sample_registry [] 0
    ∷ [])
    ≡ (1 ∷ 2 ∷ 3 ∷ 4 ∷ []) ∷ (0 ∷ 2 ∷ 3 ∷ 4 ∷ []) ∷ (0 ∷ 0 ∷ 3 ∷ 4 ∷ []) ∷ (0 ∷ 0 ∷ 3 ∷ 0 ∷ []) ∷ (1 ∷ 0 ∷ 3 ∷ 0 ∷ []) ∷ []
unfolding text_definitions registry_definitions slot_definitions number applying big_endian_from cut tabulate decode_slot decode fit_store
reasons-in-order = refl

-- ---- what is stored and written

-- an endpoint that answers its time and writes two bytes
clockwork : Endpoint ℕ
clockwork = record {
  unfit = λ handed. false;
  refuse = λ refusal. refusal_number refusal;
  serve = λ clients t slots random. record { answer = t; text = 8 ∷ 9 ∷ []; slots = [] };
}

-- at the time 1600, with an output of three bytes
abbrev runs : ℕ → Outcome ℕ
runs clock = outcome_by clockwork [] (big_endian_bytes 8 1600) (record { clock = clock; random = []; output = 1 ∷ 2 ∷ 3 ∷ [] }) (Ok tt)

-- T is the larger of clock and time, and is stored; the output beyond the text is untouched
outcomes-around : runs 1100 ∷ runs 1700 ∷ []
    ≡ record { answer = 1600; output = 8 ∷ 9 ∷ 3 ∷ []; store = replicate 6 0 ++ 6 ∷ 64 ∷ [] }
    ∷ record { answer = 1700; output = 8 ∷ 9 ∷ 3 ∷ []; store = replicate 6 0 ++ 6 ∷ 164 ∷ [] }
    ∷ []
unfolding clockwork outcome_by decode encode concat big_endian_from big_endian_bytes
outcomes-around = refl

-- a refusal leaves both
refusal-around : outcome_by clockwork [] (5 ∷ []) (record { clock = 1; random = []; output = 1 ∷ 2 ∷ [] }) (Err (Unfit Store))
    ≡ record { answer = 3; output = 1 ∷ 2 ∷ []; store = 5 ∷ [] }
unfolding clockwork outcome_by
refusal-around = refl
