-- What the numbers mean: which answers an endpoint can give, whatever it is handed, and that their numbers tell them apart. Nothing
-- else than a grant has the numbers of a grant, and nothing else than refusals 1 to 4 has theirs.
--
-- The claim over the exports speaks of numbers alone and can be read without this. Proved in proofs/ (`nothing-else`).
use Rattle.std.specs.Prelude.{ℕ, ◌≡◌, Bool, true, false, not, ◌&&◌, List, eqb, Ok, Err}
use Rattle.protocol.specs.declared.Refusal.TheVariants.{Unfit, ErrorPage, Redirect, Token, Failed}
use Rattle.protocol.specs.declared.CheckAnswer.{CheckAnswer}
use Rattle.protocol.specs.declared.CheckAnswer.TheVariants.{Refused, NotLive, Live}
use Rattle.protocol.specs.Answers.{refusal_number, is_grant, Decision}
use Rattle.protocol.specs.Outcomes.{Handed, authorization_outcome, token_outcome, revocation_outcome, check_outcome}
use Rattle.authorization_server.specs.Numbers.{decision_number, authorization_reply, token_reply, check_reply}
use Rattle.history.specs.Server.{is_unfit_refusal, is_unfit_decision, is_unfit_check, is_live_check}
use Rattle.host_history.specs.Exports.{is_one_to_four}

-- "page", and "Authorization then redirects with an error word"
unfoldable pub of_authorization : Decision → Bool
of_authorization (Ok tt) = true
of_authorization (Err (Unfit i)) = true
of_authorization (Err (ErrorPage p)) = true
of_authorization (Err (Redirect w)) = true
of_authorization (Err (Token w)) = false
of_authorization (Err (Failed f)) = false

-- an error word with its status, and "Status 503, empty", "Status 500, empty"
unfoldable pub of_token : Decision → Bool
of_token (Ok tt) = true
of_token (Err (Unfit i)) = true
of_token (Err (ErrorPage p)) = false
of_token (Err (Redirect w)) = false
of_token (Err (Token w)) = true
of_token (Err (Failed f)) = true

-- an error word with its status
unfoldable pub of_revocation : Decision → Bool
of_revocation (Ok tt) = true
of_revocation (Err (Unfit i)) = true
of_revocation (Err (ErrorPage p)) = false
of_revocation (Err (Redirect w)) = false
of_revocation (Err (Token w)) = true
of_revocation (Err (Failed f)) = false

-- "1 to 4 .. (the gate has no 1)"; "Not live is an answer, not an error."
unfoldable pub of_check : CheckAnswer → Bool
of_check (Refused r) = is_unfit_refusal r && not (eqb (refusal_number r) 1)
of_check NotLive = true
of_check (Live l) = true

-- for every registry and store, fit or not, and every call
pub record NothingElse (registry store : List ℕ) : Type 0 where
  pub authorizes : (query : List ℕ) (decision farm : ℕ) (handed : Handed)
      → of_authorization (authorization_outcome query decision farm registry store handed).answer.decision ≡ true
  pub tokens : (header body : List ℕ) (handed : Handed) → of_token (token_outcome header body registry store handed).answer.decision ≡ true
  pub revokes : (header body : List ℕ) (clock : ℕ) (output : List ℕ)
      → of_revocation (revocation_outcome header body registry store clock output).answer.decision ≡ true
  pub checks : (presented : List ℕ) (clock : ℕ) → of_check (check_outcome presented registry store clock).answer ≡ true
  -- refusal 0 and error 0, status 200, and live 1
  pub granted : (query : List ℕ) (decision farm : ℕ) (handed : Handed)
      → let a = (authorization_outcome query decision farm registry store handed).answer in
      (eqb (authorization_reply a).refusal 0 && eqb (authorization_reply a).error 0) ≡ is_grant a.decision
  pub yielded : (header body : List ℕ) (handed : Handed)
      → let a = (token_outcome header body registry store handed).answer in eqb (token_reply a).status 200 ≡ is_grant a.decision
  pub revoked : (header body : List ℕ) (clock : ℕ) (output : List ℕ)
      → let a = (revocation_outcome header body registry store clock output).answer in eqb (token_reply a).status 200 ≡ is_grant a.decision
  pub live : (presented : List ℕ) (clock : ℕ)
      → let a = (check_outcome presented registry store clock).answer in eqb (check_reply a).live 1 ≡ is_live_check a
  -- refusals 1 to 4
  pub unfit : (d : Decision) → is_one_to_four (decision_number d) ≡ is_unfit_decision d
  pub unfit_check : (a : CheckAnswer) → is_one_to_four (check_reply a).refusal ≡ is_unfit_check a
