-- The place that `position` finds, and the length where there is none.
use Rattle.std.proofs.Common.{rules, tests, ℕ, nat_eq, ◌∙◌}
use Rattle.std.proofs.lemmas.Iterator.{YieldsList-from_slice}
use Rattle.std.proofs.lemmas.Iterator.Search.{position_from_yields_List}
use Rattle.octets.proofs.Pieces.{unwrap-position}
use Rattle.octets.proofs.index_of.Goals as goal

pub returns : goal.returns
returns c =
    let s = c.args.s.now in
    let found = position_from_yields_List (λ (y : ℕ). nat_eq y c.args.x) _ _ c.position.result c.position.ensures.ran (YieldsList-from_slice s (cc)) (λ x b q k. search (rules, tests)) in
    c.unwrap_or.ensures ∙ unwrap-position c.args.x s c.position.result found
