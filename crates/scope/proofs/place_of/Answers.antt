-- The table of the code lists the names, and the closure compares the text with one of them.
use borrow.Author.Rules.{rules}
use borrow.Author.Tests.{tests}
use Rattle.std.proofs.lemmas.Iterator.{YieldsList-from_slice}
use Rattle.std.proofs.lemmas.Iterator.Search.{position_from_yields_List}
use Rattle.octets.specs.Lists.{same}
use Rattle.scope.specs.Set.{names}
use Rattle.scope.proofs.place_of.Goals as goal

pub returns : goal.returns
unfolding names
returns c =
    position_from_yields_List (λ b. same c.args.text.now b.now) _ _ _ c.position.ensures.ran (YieldsList-from_slice _ c.iter.ensures.rest)
    (λ x b q k. search (rules, tests))
