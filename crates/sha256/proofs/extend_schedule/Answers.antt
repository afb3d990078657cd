-- One word more is the standard's next word, and after 64 words none is left to make.
use Rattle.std.proofs.Common.{rules, arith, ◌≡◌, sym, ◌∙◌, take_all}
use Rattle.sha256.specs.Digest.{extended}
use Rattle.sha256.proofs.Blocks.{extend-next}
use Rattle.sha256.proofs.extend_schedule.Goals as goal

pub loop-t-preserved : goal.loop-t-preserved
loop-t-preserved c =
    let l = c.loop-t in
    (search rules, search rules, rw c.schedule_word.ensures (extend-next l.w l.t l.invariant.0 (search rules) l.invariant.1 ∙ l.invariant.2))

pub returns : goal.returns
unfolding extended
returns c =
    let l = c.loop-t in
    let all : l.t ≡ 64 = omega arith in
    sym (take_all 64 l.w (omega arith)) ∙ rw all at l.invariant.2
