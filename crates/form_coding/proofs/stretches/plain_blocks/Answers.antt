-- A block that is plain lies within the stretch too.
use Rattle.std.proofs.Common.{sym, ◌∙◌, ap, arith, ◌≡◌, ◌≤◌, ◌+◌, ◌*◌, ◌/◌, length}
use Rattle.octets.specs.Lists.{every}
use Rattle.encoding.proofs.Chunks.{chunk_at}
use Rattle.form_coding.specs.Turns.{is_plain}
use Rattle.form_coding.proofs.Turns.{stretch-block}
use Rattle.form_coding.proofs.stretches.plain_blocks.Goals as goal

pub loop-i-preserved : goal.loop-i-preserved
loop-i-preserved c =
    let s = c.args.s.now in
    let l = c.loop-i in
    let blocks = c.as_chunks.ensures in
    let within : l.i * 16 + 16 ≤ length s = omega (arith, blocks.front_len, c.loop-i-test.true) in
    let next : (l.i + 1) * 16 ≡ l.i * 16 + 16 = omega arith in
    let block = chunk_at 16 (length s / 16) l.i s _ (omega (arith, blocks.front_len, c.loop-i-test.true)) blocks.front in
    let plain = sym (ap (every is_plain) block) ∙ sym c.if-not-all_plain.ensures in
    rw next (stretch-block s (l.i * 16) 16 l.invariant within plain)
