-- The tests come in the order of the plan's reasons. Past them what is left is one access token, on the refresh token that was found.
use Rattle.std.proofs.Common.{refl, sym, ◌∙◌, false, [], ◌∷◌}
use Rattle.token_store.specs.declared.Sought.TheVariants.{Refresh}
use Rattle.protocol.specs.declared.ErrorWord.TheVariants.{InvalidGrant, InvalidScope}
use Rattle.protocol.specs.declared.Refusal.TheVariants.{Token}
use Rattle.protocol.specs.Refusals.{when}
use Rattle.protocol.specs.Granting.{refresh_plan}
use Rattle.protocol.proofs.Reasons.{stop, pass, ends-first}
use Rattle.granting.proofs.Plans.{own-found, own-none, refuses, follows-later}
use Rattle.granting.proofs.grant_refresh.Goals as goal

pub returns-in_default : goal.returns-in_default
unfolding refresh_plan
returns-in_default c =
    let a = c.args in
    rw (own-none a.t.seconds a.request.client Refresh a.presented a.store.now (sym c.in_default.is ∙ c.find_own.ensures)) (refuses (stop refl) refl)

pub returns-then-not-scope_fits : goal.returns-then-not-scope_fits
unfolding refresh_plan
returns-then-not-scope_fits c =
    let a = c.args in
    let own = own-found a.t.seconds a.request.client Refresh a.presented a.store.now c.in-Some.i (sym c.in-Some.is ∙ c.find_own.ensures) in
    rw (own.own, own.first.taken, ← c.slot_at-token.ensures, ← c.scope_fits.ensures, c.if-not-scope_fits.true) (refuses (pass refl (stop refl)) refl)

pub returns : goal.returns
unfolding refresh_plan
returns c =
    let a = c.args in
    let own = own-found a.t.seconds a.request.client Refresh a.presented a.store.now c.in-Some.i (sym c.in-Some.is ∙ c.find_own.ensures) in
    let issued = rw (c.token_on-access.ensures, c.origin-origin.ensures, c.scope_given-scope.ensures, c.bytes_at-handle.ensures) at c.grant_access.ensures in
    rw (own.own, own.first.taken, ← c.slot_at-token.ensures, ← c.scope_fits.ensures, c.if-not-scope_fits.false)
    (follows-later (when false (Token InvalidGrant) ∷ when false (Token InvalidScope) ∷ []) (pass refl (pass refl (ends-first _))) issued)
