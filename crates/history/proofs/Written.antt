-- What any call writes: a text at the start of the output, which it fits, and whose length it answers.
--
-- In order: texts at the start of an output; what a call writes that is served, and one that is refused with 1 to 4.
-- Assumes nothing.
use mathlib.Core.Path.{◌≡◌, refl, ap, ◌∙◌}
use mathlib.Core.Bool.{false}
use mathlib.Core.List.{List, []}
use Prim.Native.Nat.{ℕ, ◌≤◌}
use native.Mathlib.Nat.{zero-add}
use native.Mathlib.Omega.{arith}
use lib.ListN.{length, take, drop}
use lib.Seq.{sets, sets-eq, length-sets, take-append_seam, drop-append_seam}
use Rattle.octets.specs.Text.{bytes}
use Rattle.form.specs.Content.{form_value}
use Rattle.client_registry.specs.Layout.{redirect_room}
use Rattle.client_registry.specs.Registry.{Client}
use Rattle.client_registry.specs.Lookup.{client_at}
use Rattle.token_store.specs.Store.{Store, call_time}
use Rattle.protocol.specs.declared.Input.{Input}
use Rattle.protocol.specs.Authorization.{query_client, location_text}
use Rattle.protocol.specs.Revocation.{revocation_reply}
use Rattle.protocol.specs.Granting.{first_handle, decision_on}
use Rattle.protocol.specs.Outcomes.{Outcome, serve_authorization, reply_text, serve_token, without_random, serve_revocation, serve_check}
use Rattle.protocol.proofs.Lengths.{location-fits, reply-fits, revocation-fits}
use Rattle.history.specs.Calls.{Call, authorization, token, revocation, check, handed_to}
use Rattle.history.specs.Server.{Answer, length_of}
use Rattle.history.specs.AnyStore.{unfit_answer, unfit_outcome}
use Rattle.history.proofs.AnyCall.{outcome_on, unfit_to, plan_on, asked}

-- ---- texts at the start of an output

-- an answer with a text at the start of the output, which it fits
pub record Written (before : List ℕ) (o : Outcome Answer) (text : List ℕ) : Type 0 where
  pub put : o.output ≡ sets before 0 text
  pub long : length_of o.answer ≡ length text
  pub fits : length text ≤ length before

module _ {before : List ℕ} {o : Outcome Answer} {text : List ℕ} (w : Written before o text) where
  pub written-within : length_of o.answer ≤ length before
  written-within = omega (arith, w.long, w.fits)

  pub written-sized : length o.output ≡ length before
  written-sized = ap length w.put ∙ length-sets before 0 text

  pub written-beyond : drop (length_of o.answer) o.output ≡ drop (length_of o.answer) before
  written-beyond =
      rw (w.long, w.put, sets-eq text before 0 (omega (arith, w.fits)), zero-add)
      (drop-append_seam text (drop (length text) before))

  -- the answer, which is the output up to the length answered
  pub written-text : take (length_of o.answer) o.output ≡ text
  written-text =
      rw (w.long, w.put, sets-eq text before 0 (omega (arith, w.fits)), zero-add)
      (take-append_seam text (drop (length text) before))

-- ---- what a call writes

unfoldable pub text_on : List Client → Store → Call → List ℕ
text_on clients g (authorization query decision farm handed) =
    let plan = plan_on clients g (authorization query decision farm handed) in
    let redirect = (client_at clients (query_client clients query)).redirect in
    location_text redirect (form_value query (bytes "state")) (first_handle handed.random) (decision_on plan)
text_on clients g (token header body handed) =
    let plan = plan_on clients g (token header body handed) in reply_text handed.random plan (decision_on plan)
text_on clients g (revocation header body clock output) = revocation_reply (decision_on (plan_on clients g (revocation header body clock output)))
text_on clients g (check presented clock) = []

module _ (clients : List Client) (short : (n : ℕ) → length (client_at clients n).redirect ≤ redirect_room) (g : Store) where
  pub written_on : (c : Call) → unfit_to c ≡ false → Written (handed_to c).output (outcome_on clients g c) (text_on clients g c)
  unfolding unfit_to handed_to outcome_on serve_authorization serve_token serve_revocation serve_check length_of asked text_on
  written_on (authorization query decision farm handed) e =
      record { put = refl; long = refl; fits = location-fits handed clients (call_time g handed.clock) g.slots query decision farm short e }
  written_on (token header body handed) e =
      record { put = refl; long = refl; fits = reply-fits handed clients (call_time g handed.clock) g.slots header body e }
  written_on (revocation header body clock output) e =
      record { put = refl; long = refl; fits = revocation-fits (without_random clock output) clients (call_time g clock) g.slots header body e }
  written_on (check presented clock) e = record { put = refl; long = refl; fits = omega arith }

pub unfit-written : (store : List ℕ) (c : Call) (i : Input) → Written (handed_to c).output (unfit_outcome store c i) []
unfolding unfit_answer length_of
unfit-written store (authorization query decision farm handed) i = record { put = refl; long = refl; fits = omega arith }
unfit-written store (token header body handed) i = record { put = refl; long = refl; fits = omega arith }
unfit-written store (revocation header body clock output) i = record { put = refl; long = refl; fits = omega arith }
unfit-written store (check presented clock) i = record { put = refl; long = refl; fits = omega arith }
