-- A byte is written as the next ones of the whole, three at most.
use Rattle.std.proofs.Common.{arith, get_or}
use Rattle.octets.proofs.Writing.{write-start, write-more, write-end}
use Rattle.form_coding.specs.Coding.{encode}
use Rattle.form_coding.proofs.Coding.{byte-length, encode-step, encode-end}
use Rattle.form_coding.proofs.append_value.Goals as goal

pub loop-b-init : goal.loop-b-init
loop-b-init c = let a = c.args in (omega arith, write-start a.out.now a.at (encode a.v.now))

pub loop-b-preserved : goal.loop-b-preserved
loop-b-preserved c =
    let l = c.loop-b in
    let v = c.args.v.now in
    let call = c.append_byte-next in
    let most = byte-length (get_or v l.b-index 0) in
    let rest = write-more (rw (encode-step v l.b-index c.loop-b-test.true) at l.invariant.1) call.ensures in
    (omega (arith, call.ensures.end, call.auto.out), rest)

pub returns : goal.returns
returns c = write-end (rw (encode-end c.args.v.now c.loop-b.b-index c.loop-b-test.false) at c.loop-b.invariant.1)
