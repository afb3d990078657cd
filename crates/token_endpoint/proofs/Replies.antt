-- What was granted by a plan, and the reply to it, are what protocol says of the call.
--
-- Assumes nothing.
use Prim.Native.Nat.{ℕ, ◌≤◌}
use mathlib.Core.Path.{◌≡◌, refl, ap, ◌∙◌}
use mathlib.Core.List.{List}
use native.Mathlib.Omega.{arith}
use Rattle.std.specs.Prelude.{Result, Ok, Err}
use lib.Seq.{sets}
use Rattle.octets.specs.Writing.{Appended}
use Rattle.octets.proofs.Writing.{append-front}
use Rattle.client_registry.specs.Registry.{Client}
use Rattle.token_store.specs.Store.{Store}
use Rattle.protocol.specs.Answers.{Decision}
use Rattle.protocol.specs.declared.Refusal.{Refusal}
use Rattle.protocol.specs.declared.Request.{Request}
use Rattle.protocol.specs.declared.Request.TheVariants.{Refused, Code, Exchange, Refresh, Credentials, Revocation}
use Rattle.protocol.specs.declared.Reading.{Reading}
use Rattle.protocol.specs.declared.TokenAnswer.{TokenAnswer}
use Rattle.protocol.specs.Limits.{token_random}
use Rattle.protocol.specs.Token.{read_token}
use Rattle.protocol.specs.Granting.{Plan, plan_of, decision_on}
use Rattle.protocol.specs.Outcomes.{answer_to, reply_text, serve_token}
use Rattle.admission.specs.Entering.{Serves}
use Rattle.granting.specs.declared.Issued.{Issued}
use Rattle.granting.specs.Granted.{random_needed, granted_by, decision_of, Follows}
use Rattle.granting.proofs.Plans.{follows-decision}
use Rattle.token_endpoint.specs.Replies.{reply_to}

module _ (plan : Plan) where
  reply-to : (random : List ℕ) (d : Decision) → reply_to random (granted_by d plan) ≡ reply_text random plan d
  unfolding granted_by reply_to reply_text
  reply-to random (Ok tt) = refl
  reply-to random (Err refusal) = refl

-- no request takes more random bytes than a call brings
pub request-random : (r : Request) → random_needed r ≤ token_random
request-random (Refused refusal) = omega arith
request-random (Code r) = omega arith
request-random (Exchange r) = omega arith
request-random (Refresh r) = omega arith
request-random (Credentials r) = omega arith
request-random (Revocation r) = omega arith

-- the steps of a call that is served: it is read, granted on the store, and replied to
module _ (header body : List ℕ) (clients : List Client) (t : ℕ) (random : List ℕ) (before : Store) where
  pub token-served : {reading : Reading} → reading ≡ read_token clients header body
      → {granted : Result Issued Refusal} {after : Store} → Follows (plan_of t before.slots random reading) before granted after
      → {out written : List ℕ} {n : ℕ} → Appended out 0 (reply_to random granted) written n
      → {answer : TokenAnswer} → answer ≡ answer_to header (decision_of granted) n
      → Serves (serve_token header body clients t before.slots random) before after out written answer
  unfolding serve_token
  token-served {reading} read {granted} {after} f {out} w a =
      let plan = plan_of t before.slots random (read_token clients header body) in
      let follows : Follows plan before granted after = rw read at f in
      let decided : decision_of granted ≡ decision_on plan = follows-decision follows in
      let replied : reply_to random granted ≡ reply_text random plan (decision_on plan) =
      ap (reply_to random) follows.answer ∙ reply-to plan random (decision_on plan)
      in
      record {
        answer = a ∙ rw (decided, append-front w, replied) refl;
        text = w.bytes ∙ ap (sets out 0) replied;
        store = follows.store;
      }
