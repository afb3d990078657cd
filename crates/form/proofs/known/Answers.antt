-- The split gives the pieces of the text of names, and the closure compares one of them with the name.
use borrow.Author.Rules.{rules}
use borrow.Author.Tests.{tests}
use lib.Dec.{eqb}
use Rattle.std.proofs.lemmas.Iterator.Splits.{YieldsList-from_slice_split}
use Rattle.std.proofs.lemmas.Iterator.Search.{position_from_yields_List}
use Rattle.octets.specs.Lists.{same}
use Rattle.octets.proofs.Splits.{slice_split_on}
use Rattle.form_coding.specs.Coding.{decode}
use Rattle.form.proofs.known.Goals as goal

pub returns : goal.returns
returns c =
    let names = c.args.names.now in
    let s = c.split.ensures in
    rw (← slice_split_on 38 names)
    (position_from_yields_List (same (decode c.args.name.now)) _ _ _ c.position.ensures.ran
    (YieldsList-from_slice_split _ (λ b. eqb b 38) names s.rest s.done s.closure (λ x b q k. search (rules, tests)))
    (λ x b q k. search (rules, tests)))
