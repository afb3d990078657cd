-- The first byte tells which turn it is. Either is what the definition says, and there is room for its bytes.
use Rattle.std.proofs.Common.{sym, arith}
use Rattle.octets.proofs.Writing.{store-one}
use Rattle.form_coding.proofs.Turns.{turn-symbol, turn-stretch, turn-fits}
use Rattle.form_coding.proofs.decode_turn.Goals as goal

pub returns-then-is_mark : goal.returns-then-is_mark
returns-then-is_mark c =
    let s = c.first_symbol-byte in
    let turn = turn-symbol c.args.s.now (sym c.if-is_mark.ensures) s.ensures in
    let fits = turn-fits c.args.s.now c.requires.0 in
    record {
      width = sym turn.0;
      within = (omega (arith, turn.0, fits), omega (arith, turn.0, fits));
      bytes = rw turn.1 (store-one c.args.out.now c.args.at s.result.byte);
    }

pub returns : goal.returns
returns c =
    let n = c.copy_stretch-n in
    let turn = turn-stretch c.args.s.now (sym c.if-is_mark.ensures) n.ensures.count in
    let fits = turn-fits c.args.s.now c.requires.0 in
    record { width = sym turn.0; within = (omega (arith, turn.0, fits), omega (arith, turn.0, fits)); bytes = rw turn.1 n.ensures.bytes }
