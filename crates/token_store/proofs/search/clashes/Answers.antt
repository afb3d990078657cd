-- A slot that holds the handle is found, or there is none.
use Rattle.std.proofs.Common.{rules, tests, ◌∙◌}
use Rattle.std.proofs.lemmas.Iterator.{YieldsList-from_slice}
use Rattle.std.proofs.lemmas.Iterator.Search.{any_from_yields_List}
use Rattle.token_store.specs.Store.{holds}
use Rattle.token_store.proofs.Scans.{read_by, any-slot}
use Rattle.token_store.proofs.search.clashes.Goals as goal

pub returns : goal.returns
returns c =
    let p = holds c.args.handle.now in
    let pieces = c.slots.result.now in
    any_from_yields_List (read_by p) _ _ c.any.result c.any.ensures.ran (YieldsList-from_slice pieces (cc)) (λ x b q k. search (rules, tests))
    ∙ any-slot p c.args.store.now pieces c.slots.ensures.slots
