-- Only a % must begin an escape.
use Rattle.std.proofs.Common.{◌∙◌, ap, ne_eqb}
use Rattle.std.specs.Option.{is_some}
use Rattle.form_coding.proofs.Coding.{sound-other, sound-percent}
use Rattle.form_coding.proofs.is_sound.Goals as goal

pub returns-then-s-ne37 : goal.returns-then-s-ne37
returns-then-s-ne37 c = rw (ne_eqb _ 37 c.if-s-ne37.true) (sound-other c.args.s.now c.if-s-ne37.true)

pub returns-else-s-ne37 : goal.returns-else-s-ne37
returns-else-s-ne37 c = c.is_some.ensures ∙ ap is_some c.escape.ensures ∙ sound-percent c.args.s.now c.if-s-ne37.false
