-- The closure asks of each place whether its name is repeated.
use borrow.Author.Rules.{rules}
use borrow.Author.Tests.{tests}
use Rattle.std.proofs.Common.{◌∙◌}
use Rattle.std.proofs.lemmas.Iterator.{YieldsList-from_slice}
use Rattle.std.proofs.lemmas.Iterator.Search.{any_from_yields_List}
use Rattle.octets.proofs.Searches.{any-list}
use Rattle.form.specs.Content.{is_repeated}
use Rattle.form.specs.Places.{view_of}
use Rattle.form.specs.declared.Place.{Place}
use Rattle.form.proofs.values.any_repeated.Goals as goal

pub returns : goal.returns
returns c =
    let test = λ (p : Place). is_repeated (view_of c.args.s.now p) in
    any_from_yields_List test _ _ c.any.result c.any.ensures.ran (YieldsList-from_slice c.args.places c.iter.ensures.rest) (λ x b q k. search (rules, tests))
    ∙ any-list test c.args.places
