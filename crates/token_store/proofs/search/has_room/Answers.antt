-- Of the vacant slots n are counted at most, and there is room where they are n.
use Rattle.std.proofs.Common.{rules, tests}
use Rattle.std.proofs.lemmas.Iterator.{YieldsList-from_slice, YieldsList-from_take}
use Rattle.std.proofs.lemmas.Iterator.Consumers.{count_from_yields_List, YieldsList-from_filter}
use Rattle.token_store.specs.Store.{is_vacant}
use Rattle.token_store.proofs.Scans.{read_by, slots-enough}
use Rattle.token_store.proofs.search.has_room.Goals as goal

pub returns : goal.returns
returns c =
    let p = is_vacant c.args.t in
    let n = c.args.n in
    let pieces = c.slots.result.now in
    let counted =
    count_from_yields_List _ c.count.result c.count.ensures.ran
    (YieldsList-from_take n (YieldsList-from_filter _ (read_by p) {f = c.filter-vacant.result.p} (YieldsList-from_slice pieces (cc)) (cc) (λ x b q k. search (rules, tests))) (cc))
    in
    rw counted (slots-enough p c.args.store.now pieces c.slots.ensures.slots n)
