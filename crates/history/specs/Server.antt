-- Our server, by the definitions that the endpoints are proved against: the outcome of any call, and what demand 3 sees of it.
use Rattle.std.specs.Prelude.{ℕ, Bool, true, false, List, eqb, Ok, Err}
use Rattle.protocol.specs.declared.Refusal.{Refusal}
use Rattle.protocol.specs.declared.Refusal.TheVariants.{Unfit, ErrorPage, Redirect, Token, Failed}
use Rattle.protocol.specs.declared.AuthorizationAnswer.{AuthorizationAnswer}
use Rattle.protocol.specs.declared.TokenAnswer.{TokenAnswer}
use Rattle.protocol.specs.declared.LiveToken.{LiveToken}
use Rattle.protocol.specs.declared.CheckAnswer.{CheckAnswer}
use Rattle.protocol.specs.declared.CheckAnswer.TheVariants.{Refused, NotLive, Live}
use Rattle.protocol.specs.Answers.{is_grant, status_of, Decision}
use Rattle.protocol.specs.Outcomes.{Outcome, authorization_outcome, token_outcome, revocation_outcome, check_outcome}
use Rattle.history.specs.Calls.{Call, authorization, token, revocation, check, Result, Server}

-- ---- the outcome of any call

pub data Answer : Type 0 where
  authorization_answer : AuthorizationAnswer → Answer
  token_answer : TokenAnswer → Answer
  check_answer : CheckAnswer → Answer

-- an outcome with its answer put among those of all endpoints
abbrev pub answering : {A : Type 0} → (A → Answer) → Outcome A → Outcome Answer
answering tag o = record { answer = tag o.answer; output = o.output; store = o.store }

unfoldable pub outcome_of : List ℕ → List ℕ → Call → Outcome Answer
outcome_of registry store (authorization query decision farm handed) =
    answering authorization_answer (authorization_outcome query decision farm registry store handed)
outcome_of registry store (token header body handed) = answering token_answer (token_outcome header body registry store handed)
outcome_of registry store (revocation header body clock output) =
    answering token_answer (revocation_outcome header body registry store clock output)
outcome_of registry store (check presented clock) = answering check_answer (check_outcome presented registry store clock)

-- ---- answers, told apart

unfoldable pub is_unfit_refusal : Refusal → Bool
is_unfit_refusal (Unfit i) = true
is_unfit_refusal (ErrorPage p) = false
is_unfit_refusal (Redirect w) = false
is_unfit_refusal (Token w) = false
is_unfit_refusal (Failed f) = false

unfoldable pub is_unfit_decision : Decision → Bool
is_unfit_decision (Ok tt) = false
is_unfit_decision (Err r) = is_unfit_refusal r

unfoldable pub is_unfit_check : CheckAnswer → Bool
is_unfit_check (Refused r) = is_unfit_refusal r
is_unfit_check NotLive = false
is_unfit_check (Live l) = false

-- the call was refused with 1 to 4
unfoldable pub is_unfit : Answer → Bool
is_unfit (authorization_answer a) = is_unfit_decision a.decision
is_unfit (token_answer a) = is_unfit_decision a.decision
is_unfit (check_answer a) = is_unfit_check a

-- a redirect with a code, or status 200
unfoldable pub is_granted : Answer → Bool
is_granted (authorization_answer a) = is_grant a.decision
is_granted (token_answer a) = eqb (status_of a.decision) 200
is_granted (check_answer a) = false

-- how much of the output is written; the check is handed none
unfoldable pub length_of : Answer → ℕ
length_of (authorization_answer a) = a.length
length_of (token_answer a) = a.length
length_of (check_answer a) = 0

unfoldable pub is_live_check : CheckAnswer → Bool
is_live_check (Refused r) = false
is_live_check NotLive = false
is_live_check (Live l) = true

-- what is named where no token passes
abbrev pub nothing_named : LiveToken
nothing_named = record { client = 0; farm = 0; scope = 0; left = 0 }

unfoldable pub named_by : CheckAnswer → LiveToken
named_by (Refused r) = nothing_named
named_by NotLive = nothing_named
named_by (Live l) = l

-- the check let the token pass
unfoldable pub is_passed : Answer → Bool
is_passed (authorization_answer a) = false
is_passed (token_answer a) = false
is_passed (check_answer a) = is_live_check a

unfoldable pub named_in : Answer → LiveToken
named_in (authorization_answer a) = nothing_named
named_in (token_answer a) = nothing_named
named_in (check_answer a) = named_by a

-- ---- the server

abbrev pub result_of : Outcome Answer → Result
result_of o =
    let a = o.answer in
    record {
      unfit = is_unfit a;
      granted = is_granted a;
      passed = is_passed a;
      named = named_in a;
      length = length_of a;
      output = o.output;
      store = o.store;
    }

abbrev pub ours : Server
ours registry store c = result_of (outcome_of registry store c)
