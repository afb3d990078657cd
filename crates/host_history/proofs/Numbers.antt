-- The numbers of an answer tell what the claim asks of it: nothing else than a grant has the numbers of a grant, and nothing else
-- than refusals 1 to 4 has theirs.
--
-- Case by case. One case would have the numbers of another, an answer `Failed` of the authorization endpoint: it would have refusal 0
-- and error 0, and cannot come (Endpoints).
--
-- In order: each input, page and word; refusals 1 to 4; a code, a token that passes; for every input (`nothing-else`).
-- Of tokens and a revocation, status 200, `status-grant` of history says it.
-- Assumes nothing.
use mathlib.Core.Path.{◌≡◌, refl}
use mathlib.Core.Bool.{true, false, ◌&&◌, false≢true}
use mathlib.Core.List.{List}
use Prim.Native.Nat.{ℕ}
use Rattle.std.specs.Prelude.{Ok, Err}
use lib.Dec.{eqb}
use Rattle.protocol.specs.declared.ErrorWord.{ErrorWord}
use Rattle.protocol.specs.declared.ErrorWord.TheVariants.{InvalidRequest, InvalidClient, InvalidGrant, InvalidScope, UnsupportedGrantType, UnsupportedResponseType, AccessDenied, TemporarilyUnavailable, ServerError, UnauthorizedClient}
use Rattle.protocol.specs.declared.Input.{Input}
use Rattle.protocol.specs.declared.Input.TheVariants.{Buffers, Registry, Store, Clock}
use Rattle.protocol.specs.declared.PageCause.{PageCause}
use Rattle.protocol.specs.declared.PageCause.TheVariants.{Query, Client, RedirectUri}
use Rattle.protocol.specs.declared.Refusal.{Refusal}
use Rattle.protocol.specs.declared.Refusal.TheVariants.{Unfit, ErrorPage, Redirect, Token, Failed}
use Rattle.protocol.specs.declared.CheckAnswer.{CheckAnswer}
use Rattle.protocol.specs.declared.CheckAnswer.TheVariants.{Refused, NotLive, Live}
use Rattle.protocol.specs.Answers.{word_number, input_number, page_number, refusal_number, is_grant, Decision}
use Rattle.protocol.specs.Outcomes.{authorization_outcome, token_outcome, revocation_outcome, check_outcome}
use Rattle.authorization_server.specs.Numbers.{decision_number, decision_error, check_reply}
use Rattle.history.specs.Server.{is_unfit_refusal, is_unfit_decision, is_unfit_check, is_live_check}
use Rattle.history.proofs.AnyCall.{status-grant}
use Rattle.host_history.specs.Exports.{is_one_to_four}
use Rattle.host_history.specs.Cases.{of_authorization, NothingElse}
use Rattle.host_history.proofs.Endpoints.{authorization-decides, token-decides, revocation-decides, check-decides}

-- ---- each input, page and word

input-numbers : (i : Input) → (is_one_to_four (input_number i) ≡ true) × ((eqb (input_number i) 0 && true) ≡ false)
input-numbers Buffers = (refl, refl)
input-numbers Registry = (refl, refl)
input-numbers Store = (refl, refl)
input-numbers Clock = (refl, refl)

page-numbers : (p : PageCause) → (is_one_to_four (page_number p) ≡ false) × ((eqb (page_number p) 0 && true) ≡ false)
page-numbers Query = (refl, refl)
page-numbers Client = (refl, refl)
page-numbers RedirectUri = (refl, refl)

word-number : (w : ErrorWord) → eqb (word_number w) 0 ≡ false
word-number InvalidRequest = refl
word-number InvalidClient = refl
word-number InvalidGrant = refl
word-number InvalidScope = refl
word-number UnsupportedGrantType = refl
word-number UnsupportedResponseType = refl
word-number AccessDenied = refl
word-number TemporarilyUnavailable = refl
word-number ServerError = refl
word-number UnauthorizedClient = refl

-- ---- refusals 1 to 4

refusal-unfit : (r : Refusal) → is_one_to_four (refusal_number r) ≡ is_unfit_refusal r
unfolding is_unfit_refusal
refusal-unfit (Unfit i) = (input-numbers i).0
refusal-unfit (ErrorPage p) = (page-numbers p).0
refusal-unfit (Redirect w) = refl
refusal-unfit (Token w) = refl
refusal-unfit (Failed f) = refl

decision-unfit : (d : Decision) → is_one_to_four (decision_number d) ≡ is_unfit_decision d
unfolding is_unfit_decision
decision-unfit (Ok tt) = refl
decision-unfit (Err r) = refusal-unfit r

check-unfit : (a : CheckAnswer) → is_one_to_four (check_reply a).refusal ≡ is_unfit_check a
unfolding is_unfit_check
check-unfit (Refused r) = refusal-unfit r
check-unfit NotLive = refl
check-unfit (Live l) = refl

-- ---- a code: refusal 0 and error 0

authorization-granted : (d : Decision) → of_authorization d ≡ true → (eqb (decision_number d) 0 && eqb (decision_error d) 0) ≡ is_grant d
unfolding of_authorization is_grant
authorization-granted (Ok tt) e = refl
authorization-granted (Err (Unfit i)) e = (input-numbers i).1
authorization-granted (Err (ErrorPage p)) e = (page-numbers p).1
authorization-granted (Err (Redirect w)) e = word-number w
authorization-granted (Err (Token w)) e = absurd (false≢true e)
authorization-granted (Err (Failed f)) e = absurd (false≢true e)

-- ---- a token that passes: live 1

check-live : (a : CheckAnswer) → eqb (check_reply a).live 1 ≡ is_live_check a
unfolding is_live_check
check-live (Refused r) = refl
check-live NotLive = refl
check-live (Live l) = refl

-- ---- for every input

pub nothing-else : (registry store : List ℕ) → NothingElse registry store
nothing-else registry store = record {
  authorizes = λ query decision farm handed. authorization-decides query decision farm registry store handed;
  tokens = λ header body handed. token-decides header body registry store handed;
  revokes = λ header body clock output. revocation-decides header body registry store clock output;
  checks = λ presented clock. check-decides presented registry store clock;
  granted = λ query decision farm handed.
      authorization-granted (authorization_outcome query decision farm registry store handed).answer.decision
      (authorization-decides query decision farm registry store handed);
  yielded = λ header body handed. status-grant (token_outcome header body registry store handed).answer.decision;
  revoked = λ header body clock output. status-grant (revocation_outcome header body registry store clock output).answer.decision;
  live = λ presented clock. check-live (check_outcome presented registry store clock).answer;
  unfit = decision-unfit;
  unfit_check = check-unfit;
}
