-- The place of the first slot that matches.
use Rattle.std.proofs.Common.{rules, tests, ◌∙◌}
use Rattle.std.proofs.lemmas.Iterator.{YieldsList-from_slice}
use Rattle.std.proofs.lemmas.Iterator.Search.{position_from_yields_List}
use Rattle.token_store.specs.Store.{sought_key}
use Rattle.token_store.proofs.Scans.{read_by, first-slot}
use Rattle.token_store.proofs.search.find.Goals as goal

pub returns : goal.returns
returns c =
    let p = sought_key c.args.sought c.args.presented in
    let pieces = c.slots.result.now in
    position_from_yields_List (read_by p) _ _ c.position.result c.position.ensures.ran (YieldsList-from_slice pieces (cc)) (λ x b q k. search (rules, tests))
    ∙ first-slot p c.args.store.now pieces c.slots.ensures.slots
