-- Past the end only no text stands; a text that is longer than what is left does not stand either.
use Rattle.std.proofs.Common.{◌∙◌}
use Rattle.form_coding.proofs.Turns.{stands-past, stands-long}
use Rattle.form_coding.proofs.stands_at.Goals as goal

pub returns-then-e-k : goal.returns-then-e-k
returns-then-e-k c = c.is_empty.ensures ∙ stands-past c.args.e.now c.args.k c.args.text.now c.if-e-k.true

pub returns-then-e-k-2 : goal.returns-then-e-k-2
returns-then-e-k-2 c = stands-long c.args.e.now c.args.k c.args.text.now c.if-e-k-2.true
