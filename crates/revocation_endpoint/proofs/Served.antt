-- What was granted by a plan, and the reply to it, are what protocol says of the call.
--
-- Assumes nothing.
use Prim.Native.Nat.{ℕ, ◌≤◌}
use mathlib.Core.Path.{◌≡◌, refl, ◌∙◌}
use mathlib.Core.List.{List}
use native.Mathlib.Omega.{arith}
use Rattle.std.specs.Prelude.{Option, None, Result, Ok, Err}
use Rattle.octets.specs.Text.{bytes}
use Rattle.octets.specs.Writing.{Appended}
use Rattle.octets.proofs.Writing.{append-front}
use Rattle.client_registry.specs.Registry.{Client}
use Rattle.token_store.specs.Store.{Store}
use Rattle.protocol.specs.Answers.{Decision}
use Rattle.protocol.specs.declared.Refusal.{Refusal}
use Rattle.protocol.specs.declared.RevocationRequest.{RevocationRequest}
use Rattle.protocol.specs.declared.Request.TheVariants.{Revocation}
use Rattle.protocol.specs.declared.Reading.{Reading}
use Rattle.protocol.specs.declared.TokenAnswer.{TokenAnswer}
use Rattle.protocol.specs.Refusals.{first_of}
use Rattle.protocol.specs.Requests.{unless_refused}
use Rattle.protocol.specs.ClientForms.{form_reasons}
use Rattle.protocol.specs.Revocation.{revocation_names, read_revocation, revocation_reply}
use Rattle.protocol.specs.Granting.{plan_of, decision_on}
use Rattle.protocol.specs.Outcomes.{answer_to, serve_revocation}
use Rattle.admission.specs.Entering.{Serves}
use Rattle.granting.specs.declared.Issued.{Issued}
use Rattle.granting.specs.Granted.{random_needed, decision_of, Follows}
use Rattle.granting.proofs.Plans.{follows-decision}

module _ (header body : List ℕ) (clients : List Client) where
  -- neither a refusal nor a revocation takes random bytes
  pub request-random : {reading : Reading} → reading ≡ read_revocation clients header body → random_needed reading.request ≤ 0
  unfolding read_revocation unless_refused
  request-random e = rw e (by (first_of (form_reasons revocation_names (bytes "token") clients header body)) _ _)
    where
      by : (d : Decision) (r : RevocationRequest) (p : Option (List ℕ))
          → random_needed (unless_refused d (record { request = Revocation r; presented = p; challenge = None })).request ≤ 0
      by (Ok tt) r p = omega arith
      by (Err refusal) r p = omega arith

  -- the steps of a call that is served: it is read, granted on the store, and replied to
  module _ (t : ℕ) (random : List ℕ) (before : Store) where
    pub revocation-served : {reading : Reading} → reading ≡ read_revocation clients header body
        → {granted : Result Issued Refusal} {after : Store} → Follows (plan_of t before.slots random reading) before granted after
        → {out written : List ℕ} {n : ℕ} → Appended out 0 (revocation_reply (decision_of granted)) written n
        → {answer : TokenAnswer} → answer ≡ answer_to header (decision_of granted) n
        → Serves (serve_revocation header body clients t before.slots random) before after out written answer
    unfolding serve_revocation
    revocation-served read {granted} {after} f w a =
        let plan = plan_of t before.slots random (read_revocation clients header body) in
        let follows : Follows plan before granted after = rw read at f in
        let decided : decision_of granted ≡ decision_on plan = follows-decision follows in
        record {
          answer = a ∙ rw (append-front w, decided) refl;
          text = rw decided at w.bytes;
          store = follows.store;
        }
