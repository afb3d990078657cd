-- A stretch that ends within the first bytes is copied there; of a longer one the rest is copied behind them.
use Rattle.std.proofs.Common.{◌≡◌, ◌+◌, ◌-◌, ◌≤◌, length, take, sym, arith, length-take-le}
use Rattle.octets.specs.Lists.{part}
use Rattle.octets.proofs.Lists.{length_part}
use Rattle.octets.proofs.Searches.{index-le}
use Rattle.octets.proofs.Writing.{append-length}
use Rattle.form_coding.specs.Turns.{is_mark}
use Rattle.form_coding.proofs.Turns.{copy_ended, copy_rest}
use Rattle.form_coding.proofs.stretches.copy_stretch.Goals as goal
use Rattle.form_coding.proofs.stretches.copy_stretch.Goals.{Else-s-le-SHORT}

-- there are that many bytes
first : (c : Else-s-le-SHORT) → length (take 24 c.args.s.now) ≡ 24
first c = length-take-le 24 c.args.s.now (omega (arith, c.if-s-le-SHORT.false))

-- and this many behind them
behind : (c : Else-s-le-SHORT)
    → let s = c.args.s.now in
    24 + length (part s 24 (length s - 24)) ≡ length s
behind c =
    let s = c.args.s.now in
    let h : 24 ≤ length s = omega (arith, c.if-s-le-SHORT.false) in
    omega (arith, length_part s 24 (length s - 24) (omega arith))

pub slice_bounds-copy_short-end : goal.slice_bounds-copy_short-end
slice_bounds-copy_short-end c = sym (first (goal.at.slice_bounds-copy_short-end c).Else-s-le-SHORT)

pub copy_short-n-requires : goal.copy_short-n-requires
copy_short-n-requires c = omega (arith, first (goal.at.copy_short-n-requires c).Else-s-le-SHORT)

pub returns-then-n-lt-SHORT : goal.returns-then-n-lt-SHORT
returns-then-n-lt-SHORT c =
    let a = c.args in
    let short = c.copy_short-n.ensures in
    let ended = copy_ended a.out.now a.at a.s.now short.count short.bytes c.if-n-lt-SHORT.true in
    record { count = ended.0; bytes = ended.1 }

pub copy_long-requires : goal.copy_long-requires
copy_long-requires c =
    omega (arith, behind (goal.at.copy_long-requires c).Else-s-le-SHORT, append-length c.copy_short-n.ensures.bytes)

pub overflow_add-result : goal.overflow_add-result
overflow_add-result c =
    let s = c.args.s.now in
    omega (arith, behind (goal.at.overflow_add-result c).Else-s-le-SHORT, c.copy_long.ensures.count, index-le is_mark (part s 24 (length s - 24)))

pub returns : goal.returns
returns c =
    let a = c.args in
    let short = c.copy_short-n.ensures in
    let long = c.copy_long.ensures in
    let rest = copy_rest a.out.now a.at a.s.now short.count short.bytes c.if-n-lt-SHORT.false long.count long.bytes in
    record { count = rest.0; bytes = rest.1 }
