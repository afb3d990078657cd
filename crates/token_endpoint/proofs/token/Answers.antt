-- A refusal leaves everything as it is. Past it the call is served at its time, which is stored.
use Rattle.std.proofs.Common.{◌∙◌}
use Rattle.protocol.specs.Outcomes.{Handed, token_endpoint}
use Rattle.admission.proofs.Admitting.{fit-buffers, entered-admitted, entered-ready, outcome-refused, outcome-served}
use Rattle.token_endpoint.proofs.token.Goals as goal

pub serve-requires : goal.serve-requires
serve-requires c =
    let entered = rw c.unfit_buffers-unfit.ensures at c.in-Ok.ensures in
    let sized = fit-buffers _ _ _ (entered-admitted entered).buffers in
    (entered-ready entered c.enter.auto.store, sized.exact, sized.room)

pub returns-in-Err : goal.returns-in-Err
returns-in-Err c =
    let a = c.args in
    let handed : Handed = record { clock = a.clock; random = a.random.now; output = a.output.now } in
    rw c.unfit.ensures
    (outcome-refused (token_endpoint a.header.now a.body.now) a.registry.now a.store.now handed _ c.enter.new.store (rw c.unfit_buffers-unfit.ensures at c.in-Err.ensures))

pub returns-in-Ok : goal.returns-in-Ok
returns-in-Ok c =
    let a = c.args in
    let handed : Handed = record { clock = a.clock; random = a.random.now; output = a.output.now } in
    let entered = rw c.unfit_buffers-unfit.ensures at c.in-Ok.ensures in
    outcome-served (token_endpoint a.header.now a.body.now) a.registry.now a.store.now handed entered c.serve.result _ c.serve.ensures
    (c.serve.auto.store ∙ (entered-ready entered c.enter.auto.store).size) (λ k. (c.type_inv.store k).fits)
