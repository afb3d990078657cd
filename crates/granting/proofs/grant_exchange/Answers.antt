-- The tests come in the order of the plan's reasons. Where no live code of the client's is found, one that is shown again withdraws its
-- tokens; where one is found, a refusal leaves the slots. Past the tests the code that was found is spent.
use Rattle.std.proofs.Common.{rules, refl, sym, ◌∙◌}
use Rattle.token_store.specs.declared.Sought.TheVariants.{Code}
use Rattle.protocol.specs.Granting.{exchange_plan}
use Rattle.protocol.proofs.Reasons.{none, stop, pass}
use Rattle.granting.proofs.Plans.{own-none, exchange-found, refuses, grants}
use Rattle.granting.proofs.grant_exchange.Goals as goal

pub returns-in_default : goal.returns-in_default
unfolding exchange_plan
returns-in_default c =
    let a = c.args in
    rw (own-none a.t.seconds a.request.client Code a.presented a.store.now (sym c.in_default.is ∙ c.find_own.ensures))
    (refuses (stop refl) c.withdraw_shown_again.ensures)

pub returns-then-is_bound_code-request : goal.returns-then-is_bound_code-request
returns-then-is_bound_code-request c =
    let a = c.args in
    rw (exchange-found a.t.seconds a.store.now a.random.now a.presented a.answered a.request _ _ c.slot_at-code.ensures c.in-Some.ensures)
    (refuses (pass refl (stop (search rules))) refl)

pub returns-then-is_unverified : goal.returns-then-is_unverified
returns-then-is_unverified c =
    let a = c.args in
    rw (exchange-found a.t.seconds a.store.now a.random.now a.presented a.answered a.request _ _ c.slot_at-code.ensures c.in-Some.ensures)
    (refuses (pass refl (pass (search rules) (stop (search rules)))) refl)

pub returns-then-not-has_room : goal.returns-then-not-has_room
returns-then-not-has_room c =
    let a = c.args in
    rw (exchange-found a.t.seconds a.store.now a.random.now a.presented a.answered a.request _ _ c.slot_at-code.ensures c.in-Some.ensures)
    (refuses (pass refl (pass (search rules) (pass (search rules) (stop (search rules))))) refl)

pub returns-then-any_clash : goal.returns-then-any_clash
returns-then-any_clash c =
    let a = c.args in
    rw (
      exchange-found a.t.seconds a.store.now a.random.now a.presented a.answered a.request _ _ c.slot_at-code.ensures c.in-Some.ensures,
      ← c.bytes_at-first.ensures,
      ← c.bytes_at-second.ensures,
    )
    (refuses (pass refl (pass (search rules) (pass (search rules) (pass (search rules) (stop (search rules)))))) refl)

pub returns : goal.returns
returns c =
    let a = c.args in
    rw (
      exchange-found a.t.seconds a.store.now a.random.now a.presented a.answered a.request _ _ c.slot_at-code.ensures c.in-Some.ensures,
      ← c.bytes_at-first.ensures,
      ← c.bytes_at-second.ensures,
    )
    (grants (pass refl (pass (search rules) (pass (search rules) (pass (search rules) (pass (search rules) none))))) refl c.spend.ensures)
