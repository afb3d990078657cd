-- What the look-up finds is the slot that the plan is about; where it finds none, that is a free one, which is not live. A token that is
-- not live leaves the slots, and so does one of another client, which is refused. Past the tests the token that was found is freed.
use Rattle.std.proofs.Common.{rules, refl, sym, ◌∙◌}
use Rattle.token_store.specs.Store.{free_slot}
use Rattle.token_store.proofs.Slots.{free-dead}
use Rattle.token_store.proofs.Scans.{found_first, found_none}
use Rattle.protocol.specs.Granting.{revocation_plan}
use Rattle.protocol.proofs.Reasons.{none, stop, pass}
use Rattle.granting.proofs.Plans.{refuses, grants}
use Rattle.granting.proofs.revoke.Goals as goal

pub returns-in_default : goal.returns-in_default
unfolding revocation_plan
returns-in_default c =
    rw ((found_none _ _ (sym c.find.ensures ∙ c.in_default.is)).taken, free-dead c.args.t.seconds) (grants (pass refl none) refl refl)

pub returns-then-not-is_live : goal.returns-then-not-is_live
unfolding revocation_plan
returns-then-not-is_live c =
    let found = found_first _ _ _ (sym c.find.ensures ∙ c.in-Some.is) in
    rw (found.taken, ← c.slot_at-token.ensures, ← c.is_live.ensures, c.if-not-is_live.true) (grants (pass refl none) refl refl)

pub returns-then-token-request : goal.returns-then-token-request
unfolding revocation_plan
returns-then-token-request c =
    let found = found_first _ _ _ (sym c.find.ensures ∙ c.in-Some.is) in
    rw (found.taken, ← c.slot_at-token.ensures, ← c.is_live.ensures) (refuses (stop (search rules)) refl)

pub returns : goal.returns
unfolding revocation_plan
returns c =
    let found = found_first _ _ _ (sym c.find.ensures ∙ c.in-Some.is) in
    rw (found.taken, ← c.slot_at-token.ensures, ← c.is_live.ensures, c.if-not-is_live.false, found.replaced free_slot)
    (grants (pass (search rules) none) refl c.free_token.ensures)
