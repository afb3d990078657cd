-- Demand 1 on some calls: what server and claim say of unfit inputs, and which codes the claim calls unspent, is what document 01 says, by
-- computation from the definitions; and
-- a clock too late and one to be kept by the theorem, on the fresh store of zero bytes.
-- Assumes nothing.
use mathlib.Core.Path.{◌≡◌, refl, ap, ◌∙◌}
use mathlib.Core.Bool.{Bool, true, false, cond, not, ◌&&◌}
use mathlib.Core.List.{List, [], ◌∷◌}
use Prim.Native.Nat.{ℕ, ◌+◌, ◌^◌, ◌<◌}
use native.Mathlib.Omega.{arith}
use lib.Dec.{eqb}
use lib.ListN.{length, take, replicate}
use Rattle.octets.specs.Text.{bytes}
use Rattle.octets.specs.Lists.{Bytes, every, same}
use Rattle.octets.specs.Search.{any, keep}
use Rattle.octets.proofs.Lists.{zero-bytes}
use Rattle.octets.specs.BigEndian.{big_endian_from, big_endian_bytes}
use Rattle.encoding.specs.Hex.{hex_text, hex_digit, hex_value, read_handle, is_handle_text, unhex}
use Rattle.client_registry.specs.Registry.{clients_of}
use Rattle.client_registry.specs.Sample.{sample_registry}
use Rattle.token_store.specs.Layout.{store_size}
use Rattle.token_store.specs.Store.{fresh}
use Rattle.token_store.specs.Fit.{fit_store}
use Rattle.token_store.specs.declared.Slot.{Slot}
use Rattle.protocol.specs.declared.Input.{Input}
use Rattle.protocol.specs.declared.Input.TheVariants.{Buffers, Registry, Store, Clock}
use Rattle.protocol.specs.declared.CheckAnswer.{CheckAnswer}
use Rattle.protocol.specs.declared.CheckAnswer.TheVariants.{Refused, NotLive, Live}
use Rattle.protocol.specs.Answers.{input_number, refusal_number}
use Rattle.protocol.specs.Refusals.{first_of}
use Rattle.protocol.specs.Outcomes.{Handed, admit, outcome_by, outcome}
use Rattle.protocol.proofs.Computing.{registry_definitions}
use Rattle.protocol.proofs.Cases.{refusal_of}
use Rattle.history.specs.Calls.{Call, authorization, token, check, handed_to, fresh_store}
use Rattle.history.specs.Server.{Answer, authorization_answer, token_answer, check_answer, outcome_of, is_granted, length_of, ours}
use Rattle.history.specs.AnyStore.{is_unspent, buffers_unfit, inputs, is_unfit_input, unfit_outcome, is_shown_twice, Demand1}
use Rattle.history.proofs.SoundStores.{sound-fresh, sound-fit}
use Rattle.history.proofs.AllCalls.{fresh-bytes}
use Rattle.history.proofs.AnyStore.{demand1}
use Rattle.history.proofs.Sample.{sample-fit, sample-bytes}

-- ---- unfit inputs

pub record Case : Type 0 where
  pub registry : List ℕ
  pub store : List ℕ
  pub call : Call
  -- the refusal's number by the paper
  pub paper : ℕ

unfoldable pub handing : ℕ → ℕ → Handed
handing random output = record { clock = 0; random = replicate random 0; output = replicate output 7 }

-- no list here is a store, so nothing here is past refusal 3; a clock past 2^40 counts behind all
pub cases : List Case
cases =
    record { registry = []; store = []; call = authorization [] 1 0 (handing 20 1023); paper = 1 }
    ∷ record { registry = []; store = 5 ∷ []; call = authorization [] 1 0 (handing 20 1024); paper = 2 }
    ∷ record { registry = sample_registry; store = 5 ∷ []; call = authorization [] 1 0 (handing 20 1024); paper = 3 }
    ∷ record { registry = sample_registry; store = []; call = authorization [] 1 0 (handing 21 1024); paper = 1 }
    ∷ record { registry = sample_registry; store = []; call = token [] [] (handing 20 1024); paper = 1 }
    ∷ record { registry = sample_registry; store = []; call = token [] [] (handing 40 1023); paper = 1 }
    ∷ record { registry = 1 ∷ []; store = []; call = token [] [] (handing 40 1024); paper = 2 }
    ∷ record { registry = sample_registry; store = 5 ∷ []; call = token [] [] (handing 40 1024); paper = 3 }
    ∷ record { registry = []; store = []; call = check [] (2 ^ 40 + 1); paper = 2 }
    ∷ record { registry = sample_registry; store = 5 ∷ []; call = check [] (2 ^ 40 + 1); paper = 3 }
    ∷ []

unfoldable pub number_at : CheckAnswer → ℕ
number_at (Refused r) = refusal_number r
number_at NotLive = 0
number_at (Live l) = 0

unfoldable pub number_in : Answer → ℕ
number_in (authorization_answer a) = refusal_of a.decision
number_in (token_answer a) = refusal_of a.decision
number_in (check_answer a) = number_at a

-- the server answers the number alone, and leaves output and store
unfoldable pub served : Case → Bool
served k =
    let o = outcome_of k.registry k.store k.call in
    eqb (number_in o.answer) k.paper
    && eqb (length_of o.answer) 0
    && same o.output (handed_to k.call).output
    && same o.store k.store

-- the number of the first of these that the claim calls unfit
unfoldable pub first_of_these : Case → List Input → ℕ
first_of_these k [] = 0
first_of_these k (i ∷ is) = let r = first_of_these k is in cond (is_unfit_input k.registry k.store k.call i) (input_number i) r

unfoldable pub claimed : Case → Bool
claimed k = eqb (first_of_these k inputs) k.paper

pub unfit-as-told : every (λ k. served k && claimed k) cases ≡ true
unfolding registry_definitions cases handing served claimed first_of_these number_in number_at outcome_of outcome outcome_by admit first_of handed_to length_of buffers_unfit is_unfit_input fit_store every same
unfit-as-told = refl

-- ---- unspent codes

unfoldable pub of_kind : ℕ → Slot
of_kind kind = record { kind = kind; handle = replicate 20 0; client = 0; farm = 0; scope = 1; expiry = 0; link = replicate 32 0 }

pub unspent-kinds : keep (λ kind. is_unspent (hex_text (replicate 20 0)) (of_kind kind)) (0 ∷ 1 ∷ 2 ∷ 3 ∷ 4 ∷ 5 ∷ 6 ∷ 7 ∷ 8 ∷ []) ≡ 1 ∷ 2 ∷ 6 ∷ 7 ∷ []
unfolding of_kind keep any every same hex_text hex_digit hex_value read_handle is_handle_text unhex
unspent-kinds = refl

-- ---- the fresh store

fresh-fit : fit_store (length (clients_of sample_registry)) fresh_store ≡ true
fresh-fit = ap (fit_store (length (clients_of sample_registry))) fresh-bytes ∙ sound-fit fresh (sound-fresh _)

fresh-zeros : Bytes fresh_store
unfolding fresh_store
fresh-zeros = zero-bytes store_size

claims : (presented : List ℕ) (clock : ℕ) → Demand1 sample_registry fresh_store (check presented clock)
claims presented clock = demand1 sample_registry sample-bytes fresh_store fresh-zeros (check presented clock) tt

-- of a check, all but the clock is fit
others-fit : (presented : List ℕ) (clock : ℕ) (j : Input) → input_number j < 4
    → is_unfit_input sample_registry fresh_store (check presented clock) j ≡ false
unfolding is_unfit_input buffers_unfit
others-fit presented clock Buffers h = refl
others-fit presented clock Registry h = ap not sample-fit
others-fit presented clock Store h = ap not fresh-fit
others-fit presented clock Clock h = absurd (omega arith)

-- a clock past 2^40 gets refusal 4
pub too-late : let c = check [] (2 ^ 40 + 1) in outcome_of sample_registry fresh_store c ≡ unfit_outcome fresh_store c Clock
unfolding is_unfit_input handed_to
too-late = (claims [] (2 ^ 40 + 1)).unfit Clock (record { unfit = refl; first = others-fit [] (2 ^ 40 + 1) })

-- a check at 1000 leaves 1000 in the store's first eight bytes
past-1000 : any (is_unfit_input sample_registry fresh_store (check (bytes "lost") 1000)) inputs ≡ false
unfolding any is_unfit_input buffers_unfit handed_to
past-1000 = rw (sample-fit, fresh-fit)

pub clock-kept : take 9 (ours sample_registry fresh_store (check (bytes "lost") 1000)).store ≡ 0 ∷ 0 ∷ 0 ∷ 0 ∷ 0 ∷ 0 ∷ 3 ∷ 232 ∷ 0 ∷ []
unfolding outcome_of is_granted handed_to is_shown_twice fresh_store big_endian_bytes big_endian_from
clock-kept = let d = claims (bytes "lost") 1000 in ap (λ (b : List ℕ). take 9 b) (d.refused (d.told ∙ past-1000) refl)
