-- The stretch is found first, and its bytes are copied as one text.
use Rattle.std.proofs.Common.{sym, arith, length-take-le}
use Rattle.octets.proofs.Searches.{index-le}
use Rattle.form_coding.specs.Turns.{is_mark}
use Rattle.form_coding.proofs.stretches.copy_long.Goals as goal

pub slice_bounds-copy_at-end : goal.slice_bounds-copy_at-end
slice_bounds-copy_at-end c =
    let s = c.args.s.now in
    let n = c.stretch_length-n in
    sym (length-take-le n.result s (omega (arith, index-le is_mark s, n.ensures)))

pub returns : goal.returns
returns c =
    let s = c.args.s.now in
    let n = c.stretch_length-n in
    let whole = length-take-le n.result s (omega (arith, index-le is_mark s, n.ensures)) in
    record { count = n.ensures; bytes = record { bytes = c.copy_at.ensures; end = omega (arith, whole) } }
