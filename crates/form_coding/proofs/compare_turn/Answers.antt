-- The first byte tells which turn it is. Either is what the definition says.
use Rattle.std.proofs.Common.{sym, ◌∙◌, ap, arith, ℕ, ◌+◌, ◌≡◌, length, length-take-le}
use Rattle.octets.proofs.Searches.{index-le}
use Rattle.form_coding.specs.Turns.{is_mark, turn_bytes}
use Rattle.form_coding.proofs.Turns.{turn-symbol, turn-stretch, turn-fits}
use Rattle.form_coding.proofs.compare_turn.Goals as goal

pub returns-then-is_mark : goal.returns-then-is_mark
returns-then-is_mark c =
    let turn = turn-symbol c.args.s.now (sym c.if-is_mark.ensures) c.first_symbol-byte.ensures in
    let fits = turn-fits c.args.s.now c.requires.0 in
    record {
      place = (sym turn.0, rw turn.1);
      within = (omega (arith, turn.0, fits), omega (arith, turn.0, fits));
      equal = rw turn.1 c.stands_at.ensures;
    }

pub slice_bounds-stands_at-end-2 : goal.slice_bounds-stands_at-end-2
slice_bounds-stands_at-end-2 c =
    let s = c.args.s.now in
    sym (length-take-le c.stretch_length-n.result s (omega (arith, index-le is_mark s, c.stretch_length-n.ensures)))

pub overflow_add-result-2 : goal.overflow_add-result-2
overflow_add-result-2 c = omega (arith, index-le is_mark c.args.s.now, c.stretch_length-n.ensures)

pub returns : goal.returns
returns c =
    let s = c.args.s.now in
    let n = c.stretch_length-n in
    let turn = turn-stretch s (sym c.if-is_mark.ensures) n.ensures in
    let fits = turn-fits s c.requires.0 in
    let whole = length-take-le n.result s (omega (arith, index-le is_mark s, n.ensures)) in
    let long : n.result ≡ length (turn_bytes s) = sym whole ∙ ap length (sym turn.1) in
    record {
      place = (sym turn.0, ap (λ (m : ℕ). c.args.k + m) long);
      within = (omega (arith, turn.0, fits), omega (arith, turn.0, fits));
      equal = rw turn.1 c.stands_at-2.ensures;
    }
