-- The numbers of an answer, case by case, and an outcome with its answer in numbers. Numbers that a case leaves free are 0.
use Rattle.std.specs.Prelude.{ℕ, Ok, Err}
use Rattle.octets.specs.Search.{bit}
use Rattle.protocol.specs.declared.AuthorizationAnswer.{AuthorizationAnswer}
use Rattle.protocol.specs.declared.TokenAnswer.{TokenAnswer}
use Rattle.protocol.specs.declared.LiveToken.{LiveToken}
use Rattle.protocol.specs.declared.CheckAnswer.{CheckAnswer}
use Rattle.protocol.specs.declared.CheckAnswer.TheVariants.{Refused, NotLive, Live}
use Rattle.protocol.specs.Answers.{refusal_number, error_number, status_of, Decision}
use Rattle.protocol.specs.Outcomes.{Outcome}
use Rattle.authorization_server.specs.declared.AuthorizationReply.{AuthorizationReply}
use Rattle.authorization_server.specs.declared.TokenReply.{TokenReply}
use Rattle.authorization_server.specs.declared.CheckReply.{CheckReply}

-- the number of a refusal in document 01's table, and the number of its error word
abbrev pub decision_number : Decision → ℕ
decision_number (Ok tt) = 0
decision_number (Err r) = refusal_number r

abbrev pub decision_error : Decision → ℕ
decision_error (Ok tt) = 0
decision_error (Err r) = error_number r

abbrev pub authorization_reply : AuthorizationAnswer → AuthorizationReply
authorization_reply a = record { refusal = decision_number a.decision; error = decision_error a.decision; length = a.length }

abbrev pub token_reply : TokenAnswer → TokenReply
token_reply a = record {
  refusal = decision_number a.decision;
  status = status_of a.decision;
  error = decision_error a.decision;
  challenge = bit a.challenge;
  length = a.length;
}

abbrev pub live_reply : LiveToken → CheckReply
live_reply l = record { refusal = 0; live = 1; client = l.client; farm = l.farm; scope = l.scope; secondsleft = l.left }

abbrev pub check_reply : CheckAnswer → CheckReply
check_reply (Refused r) = record { refusal = refusal_number r; live = 0; client = 0; farm = 0; scope = 0; secondsleft = 0 }
check_reply NotLive = record { refusal = 0; live = 0; client = 0; farm = 0; scope = 0; secondsleft = 0 }
check_reply (Live l) = live_reply l

-- an outcome, its answer in numbers
abbrev pub in_numbers : {Answer Reply : Type 0} → (Answer → Reply) → Outcome Answer → Outcome Reply
in_numbers reply o = record { answer = reply o.answer; output = o.output; store = o.store }
