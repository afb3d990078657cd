-- The scan gives the place that is written, or none.
use Rattle.std.proofs.Common.{sym, ap, ◌∙◌}
use Rattle.token_store.specs.Store.{decode, is_vacant, with_slots}
use Rattle.token_store.proofs.Scans.{found_first, found_none}
use Rattle.token_store.proofs.write.issue.Goals as goal

pub returns-in-Some : goal.returns-in-Some
returns-in-Some c =
    let a = c.args in
    let found = found_first (is_vacant a.t) a.store.now c.in-Some.i (sym c.vacant.ensures ∙ c.in-Some.is) in
    c.put.ensures ∙ ap (with_slots (decode a.store.now)) (sym (found.replaced a.s))

pub returns-in_default : goal.returns-in_default
returns-in_default c =
    let a = c.args in
    let none = found_none (is_vacant a.t) a.store.now (sym c.vacant.ensures ∙ c.in_default.is) in
    ap (with_slots (decode a.store.now)) (sym (none.kept a.s))
