-- Bytes of another length, or with too late a time, are no store. Of the others the slots decide.
use Rattle.std.proofs.Common.{rules, tests, arith, sym, ◌∙◌}
use Rattle.std.proofs.lemmas.Iterator.{YieldsList-from_slice}
use Rattle.std.proofs.lemmas.Iterator.Search.{all_from_yields_List}
use Rattle.token_store.specs.Fit.{fit_slot}
use Rattle.token_store.proofs.Fits.{unfit-size, unfit-time, fit-rest}
use Rattle.token_store.proofs.Scans.{read_by, every-slot}
use Rattle.token_store.proofs.fitness.fit.Goals as goal

pub returns-in_default : goal.returns-in_default
returns-in_default c = sym (unfit-size c.args.clients c.args.store.now (search rules))

pub returns-then-time_of-gt-LATEST_TIME : goal.returns-then-time_of-gt-LATEST_TIME
returns-then-time_of-gt-LATEST_TIME c =
    let whole = c.in-Ok.ensures.1.same in
    sym (unfit-time c.args.clients c.args.store.now (omega (arith, rw whole at c.time_of.ensures)))

pub returns : goal.returns
returns c =
    let clients = c.args.clients in
    let b = c.args.store.now in
    let whole = c.in-Ok.ensures.1.same in
    let p = fit_slot clients in
    let pieces = c.slots.result.now in
    all_from_yields_List (read_by p) _ _ c.all.result c.all.ensures.ran (YieldsList-from_slice pieces (cc)) (λ x b q k. search (rules, tests))
    ∙ every-slot p b pieces (rw whole at c.slots.ensures.slots)
    ∙ sym (fit-rest clients b c.in-Ok.ensures.1.long (omega (arith, rw whole at c.time_of.ensures)))
