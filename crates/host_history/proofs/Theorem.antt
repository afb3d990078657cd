-- Demand 3 over the exports: the claim of every list of calls at the server `exports` (`host-demand3`), and what is claimed beyond it
-- (`host-credentials-yield`, `host-revocations`), with what follows for a token that was revoked (`host-revoked-for-good`).
--
-- What a call is seen to leave by its numbers is what demand 3 sees of it (`same-server`), since the numbers tell the cases apart
-- (Numbers). So the two servers are one, and what is proved of ours is proved of the exports.
-- Assumes nothing.
use mathlib.Core.Path.{◌≡◌, refl, sym, fun_ext, subst}
use mathlib.Core.List.{List}
use Prim.Native.Nat.{ℕ}
use Rattle.octets.specs.Lists.{Bytes}
use Rattle.protocol.specs.declared.CheckAnswer.{CheckAnswer}
use Rattle.protocol.specs.declared.CheckAnswer.TheVariants.{Refused, NotLive, Live}
use Rattle.protocol.specs.Outcomes.{authorization_outcome, token_outcome, revocation_outcome, check_outcome}
use Rattle.authorization_server.specs.Numbers.{check_reply}
use Rattle.history.specs.Calls.{Call, authorization, token, revocation, check, AllWellTyped, Server}
use Rattle.history.specs.Server.{outcome_of, is_unfit, is_granted, is_passed, named_in, named_by, length_of, ours}
use Rattle.history.specs.Claim.{Demand3, CredentialsYield, Revokes}
use Rattle.history.specs.Revoked.{RevokedForGood}
use Rattle.history.proofs.Theorem.{demand3, credentials-yield, revocations}
use Rattle.history.proofs.ForGood.{revoked-for-good}
use Rattle.host_history.specs.Exports.{authorization_seen, token_seen, check_seen, exports}
use Rattle.host_history.proofs.Numbers.{nothing-else}

-- what the numbers of a check name is what the check names
named-seen : (a : CheckAnswer) → let r = check_reply a in
    record { client = r.client; farm = r.farm; scope = r.scope; left = r.secondsleft } ≡ named_by a
unfolding named_by
named-seen (Refused r) = refl
named-seen NotLive = refl
named-seen (Live l) = refl

same-result : (registry store : List ℕ) (c : Call) → exports registry store c ≡ ours registry store c
unfolding exports outcome_of authorization_seen token_seen check_seen is_unfit is_granted is_passed named_in length_of
same-result registry store (authorization query decision farm handed) =
    let o = authorization_outcome query decision farm registry store handed in
    rw ((nothing-else registry store).unfit o.answer.decision, (nothing-else registry store).granted query decision farm handed)
same-result registry store (token header body handed) =
    let o = token_outcome header body registry store handed in rw ((nothing-else registry store).unfit o.answer.decision)
same-result registry store (revocation header body clock output) =
    let o = revocation_outcome header body registry store clock output in rw ((nothing-else registry store).unfit o.answer.decision)
same-result registry store (check presented clock) =
    let o = check_outcome presented registry store clock in
    rw ((nothing-else registry store).unfit_check o.answer, (nothing-else registry store).live presented clock, named-seen o.answer)

pub same-server : exports ≡ ours
same-server = fun_ext (λ registry. fun_ext (λ store. fun_ext (λ c. same-result registry store c)))

-- For every registry of bytes, fit or not, and every list of calls at the exports from a store of zero bytes.
pub host-demand3 : (registry : List ℕ) → Bytes registry → (cs : List Call) → AllWellTyped cs → Demand3 exports registry cs
host-demand3 registry small cs typed = subst (λ (s : Server). Demand3 s registry cs) (sym same-server) (demand3 registry small cs typed)

pub host-credentials-yield : (registry : List ℕ) → Bytes registry → (cs : List Call) → AllWellTyped cs → CredentialsYield exports registry cs
host-credentials-yield registry small cs typed =
    subst (λ (s : Server). CredentialsYield s registry cs) (sym same-server) (credentials-yield registry small cs typed)

pub host-revocations : (registry : List ℕ) → Bytes registry → (cs : List Call) → AllWellTyped cs → Revokes exports registry cs
host-revocations registry small cs typed = subst (λ (s : Server). Revokes s registry cs) (sym same-server) (revocations registry small cs typed)

pub host-revoked-for-good : (registry : List ℕ) → Bytes registry → RevokedForGood exports registry
host-revoked-for-good registry small = subst (λ (s : Server). RevokedForGood s registry) (sym same-server) (revoked-for-good registry small)
