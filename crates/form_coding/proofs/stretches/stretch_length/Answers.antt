-- The plain blocks lie within the stretch, and the first + or % behind them ends it.
use Rattle.std.proofs.Common.{rules, tests, ◌∙◌, ap, arith, ◌-◌, length}
use Rattle.std.proofs.lemmas.Iterator.{YieldsList-from_slice}
use Rattle.std.proofs.lemmas.Iterator.Search.{position_from_yields_List}
use Rattle.octets.specs.Lists.{part}
use Rattle.octets.proofs.Lists.{part-rest}
use Rattle.form_coding.specs.Turns.{is_mark, stretch}
use Rattle.form_coding.proofs.Turns.{index-drop, unwrap-where}
use Rattle.form_coding.proofs.stretches.stretch_length.Goals as goal

pub returns : goal.returns
returns c =
    let s = c.args.s.now in
    let k = c.plain_blocks-k.result in
    let rest = part s k (length s - k) in
    let found = position_from_yields_List is_mark _ _ c.position.result c.position.ensures.ran (YieldsList-from_slice rest (cc)) (λ x b q k. search (rules, tests)) in
    let more = c.unwrap_or.ensures ∙ unwrap-where is_mark rest c.position.result found ∙ ap stretch (part-rest s k) in
    omega (arith, more, index-drop is_mark k s c.plain_blocks-k.ensures.plain)
