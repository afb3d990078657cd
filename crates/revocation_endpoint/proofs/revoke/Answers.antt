-- A refusal leaves everything as it is. Past it the call is served at its time, which is stored.
use Rattle.std.proofs.Common.{◌∙◌}
use Rattle.protocol.specs.Outcomes.{without_random, revocation_endpoint}
use Rattle.admission.proofs.Admitting.{fit-output, entered-admitted, entered-ready, outcome-refused, outcome-served}
use Rattle.revocation_endpoint.proofs.revoke.Goals as goal

pub serve-requires : goal.serve-requires
serve-requires c =
    let entered = rw c.unfit_output-unfit.ensures at c.in-Ok.ensures in
    (entered-ready entered c.enter.auto.store, fit-output _ (entered-admitted entered).buffers)

pub returns-in-Err : goal.returns-in-Err
returns-in-Err c =
    let a = c.args in
    rw c.unfit.ensures
    (outcome-refused (revocation_endpoint a.header.now a.body.now) a.registry.now a.store.now (without_random a.clock a.output.now) _ c.enter.new.store
    (rw c.unfit_output-unfit.ensures at c.in-Err.ensures))

pub returns-in-Ok : goal.returns-in-Ok
returns-in-Ok c =
    let a = c.args in
    let entered = rw c.unfit_output-unfit.ensures at c.in-Ok.ensures in
    outcome-served (revocation_endpoint a.header.now a.body.now) a.registry.now a.store.now (without_random a.clock a.output.now) entered c.serve.result _ c.serve.ensures
    (c.serve.auto.store ∙ (entered-ready entered c.enter.auto.store).size) (λ k. (c.type_inv.store k).fits)
