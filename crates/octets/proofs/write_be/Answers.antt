-- One byte from the back is stored, and the bytes before it are those of the number without it.
use Rattle.std.proofs.Common.{rules, arith, sym, ◌∙◌}
use Rattle.octets.proofs.BigEndian.{be-last, be-end}
use Rattle.octets.proofs.write_be.Goals as goal

pub loop-i-preserved : goal.loop-i-preserved
loop-i-preserved c =
    let l = c.loop-i in
    (search rules, be-last l.b c.args.at l.i l.v (omega arith) ∙ l.invariant.1)

pub returns : goal.returns
returns c =
    let l = c.loop-i in
    sym (be-end l.b c.args.at l.i l.v (omega arith)) ∙ l.invariant.1
