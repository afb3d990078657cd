-- A refusal comes before anything is written. Past it the store is fit, and so as long as its type says.
use Rattle.std.proofs.Common.{refl, ◌∙◌}
use Rattle.std.proofs.lemmas.Result.{err_from_is_err_and}
use Rattle.admission.proofs.Admitting.{admitted, store-size}
use Rattle.admission.proofs.enter.Goals as goal

pub returns-in_err-admit : goal.returns-in_err-admit
returns-in_err-admit c =
    let refused = err_from_is_err_and c.from_residual.result c.from_residual.ensures.1 in
    rw (refused.1, refused.2) (record { answer = rw (← c.in_err-admit.ensures); store = refl })

pub unwrap-store-requires : goal.unwrap-store-requires
unwrap-store-requires c = c.as_mut_array.ensures.variant.1 (store-size (admitted _ _ _ _ c.in_ok-admit.ensures))

pub returns : goal.returns
returns c =
    let whole = (rw c.unwrap-store.ensures at c.as_mut_array.ensures.cases).same in
    let time = rw whole at c.call_time-t.ensures in
    record { answer = rw (← c.in_ok-admit.ensures, ← time); store = rw whole at c.set_time.ensures }
