-- One byte more: what the scan found so far, and the test of that byte.
use Rattle.std.proofs.Common.{rules, Bool, ◌&&◌, ap₂, sym, ◌∙◌}
use Rattle.octets.proofs.Lists.{every-none, every_more}
use Rattle.octets.proofs.all.Goals as goal

pub loop-b-init : goal.loop-b-init
loop-b-init g c = λ p is_p. sym (every-none p c.args.s.now)

pub loop-b-preserved : goal.loop-b-preserved
loop-b-preserved g c = λ p is_p.
    let l = c.loop-b in
    ap₂ (λ (a b : Bool). a && b) (l.invariant p is_p) (is_p _ _ (search rules) c.test-ok.ensures)
    ∙ sym (every_more p c.args.s.now l.b-index 0 (search rules))
