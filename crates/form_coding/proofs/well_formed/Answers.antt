-- Each byte is looked at with what follows it.
use Rattle.std.proofs.Common.{sym, ◌∙◌}
use Rattle.octets.proofs.Lists.{part-rest}
use Rattle.form_coding.proofs.Coding.{well-more, well-done}
use Rattle.form_coding.proofs.well_formed.Goals as goal

pub loop-i-preserved : goal.loop-i-preserved
loop-i-preserved c =
    let v = c.args.v.now in
    let l = c.loop-i in
    rw (c.is_sound-ok.ensures, part-rest v l.i) (well-more l.ok v l.i c.loop-i-test.true ∙ l.invariant)

pub returns : goal.returns
returns c = sym (well-done c.loop-i.ok c.args.v.now c.loop-i.i c.loop-i-test.false) ∙ c.loop-i.invariant
