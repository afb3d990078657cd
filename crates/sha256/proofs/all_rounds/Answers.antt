-- The rounds are a fold over the constants and the words, two at a time.
use Rattle.std.proofs.Common.{rules, tests, ◌∙◌}
use Rattle.std.proofs.lemmas.Iterator.{YieldsList-from_slice, YieldsList-from_zip}
use Rattle.std.proofs.lemmas.Iterator.Consumers.{fold_from_yields_List}
use Rattle.sha256.specs.Digest.{round}
use Rattle.sha256.specs.Constants.{round_constants}
use Rattle.sha256.proofs.Blocks.{rounds-fold}
use Rattle.sha256.proofs.all_rounds.Goals as goal

pub returns : goal.returns
unfolding round_constants
returns c =
    let s = c.args.s in
    let w = c.args.w.now in
    fold_from_yields_List _ (λ v p. round v p.0 p.1) s c.fold.result c.fold.ensures.ran
    (YieldsList-from_zip (YieldsList-from_slice round_constants (cc)) (YieldsList-from_slice w (cc)))
    (λ a x b q k. search (rules, tests))
    ∙ rounds-fold s round_constants w
