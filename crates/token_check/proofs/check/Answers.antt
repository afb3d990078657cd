-- A refusal leaves everything as it is. Past it the look-up goes by the slots, which the stored time leaves alone.
use Rattle.std.proofs.Common.{refl, ap, ◌∙◌, []}
use Rattle.token_store.specs.Store.{decode}
use Rattle.protocol.specs.Granting.{check_slots}
use Rattle.protocol.specs.Outcomes.{check_endpoint, serve_check, clock_alone}
use Rattle.admission.proofs.Admitting.{entered-ready, outcome-refused, outcome-served}
use Rattle.token_check.proofs.check.Goals as goal

pub unwrap-requires : goal.unwrap-requires
unwrap-requires c = c.as_array.ensures.variant.1 (entered-ready c.in-Ok.ensures c.enter.auto.store).size

pub returns-in-Err : goal.returns-in-Err
returns-in-Err c =
    let a = c.args in
    outcome-refused (check_endpoint a.token.now) a.registry.now a.store.now (clock_alone a.clock) _ c.enter.new.store c.in-Err.ensures

pub returns-in-Ok : goal.returns-in-Ok
unfolding serve_check
returns-in-Ok c =
    let a = c.args in
    let whole = (rw c.unwrap.ensures at c.as_array.ensures.cases).same in
    let looked = rw whole at c.look_up.ensures ∙ ap (check_slots _ (decode c.enter.new.store).slots) c.read_handle.ensures in
    outcome-served (check_endpoint a.token.now) a.registry.now a.store.now (clock_alone a.clock) c.in-Ok.ensures c.look_up.result []
    (record { answer = looked; text = refl; store = refl }) (entered-ready c.in-Ok.ensures c.enter.auto.store).size (λ k. (c.slice_known-2-1.given k).fits)
