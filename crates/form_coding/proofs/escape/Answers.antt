-- Behind a % a byte that is no digit, or none, makes no escape; two digits are its byte, and each is below 16.
use Rattle.std.proofs.Common.{sym, ◌∙◌, arith, get_or, ◌≡◌, true}
use Rattle.encoding.proofs.Hex.{value_below}
use Rattle.form_coding.proofs.Coding.{escape-other, escape-percent, escape-short}
use Rattle.form_coding.proofs.escape.Goals as goal

pub returns-in_err-hex_value-in-37 : goal.returns-in_err-hex_value-in-37
returns-in_err-hex_value-in-37 c =
    let percent : get_or c.args.s.now 0 0 ≡ 37 = omega arith in
    c.from_residual.ensures ∙ sym (escape-percent c.args.s.now percent ∙ rw (sym c.in_err-hex_value-in-37.ensures))

pub overflow_mul-result : goal.overflow_mul-result
overflow_mul-result c =
    omega (arith, value_below true (get_or c.args.s.now 1 0) c.in_ok-hex_value-in-37.field-0 (sym c.in_ok-hex_value-in-37.ensures))

pub returns-in_err-hex_value-in-37-2 : goal.returns-in_err-hex_value-in-37-2
returns-in_err-hex_value-in-37-2 c =
    let percent : get_or c.args.s.now 0 0 ≡ 37 = omega arith in
    c.from_residual-in_err-hex_value-in-37-2.ensures
    ∙ sym (escape-percent c.args.s.now percent ∙ rw (sym c.in_err-hex_value-in-37-2.ensures, sym c.in_ok-hex_value-in-37.ensures))

pub overflow_add-result : goal.overflow_add-result
overflow_add-result c =
    let high = value_below true (get_or c.args.s.now 1 0) c.in_ok-hex_value-in-37.field-0 (sym c.in_ok-hex_value-in-37.ensures) in
    let low = value_below true (get_or c.args.s.now 2 0) c.in_ok-hex_value-in-37-2.field-0 (sym c.in_ok-hex_value-in-37-2.ensures) in
    omega (arith, high, low)

pub returns-in_ok-hex_value-in-37-2 : goal.returns-in_ok-hex_value-in-37-2
returns-in_ok-hex_value-in-37-2 c =
    let percent : get_or c.args.s.now 0 0 ≡ 37 = omega arith in
    sym (escape-percent c.args.s.now percent ∙ rw (sym c.in_ok-hex_value-in-37.ensures, sym c.in_ok-hex_value-in-37-2.ensures))

pub returns-in_default : goal.returns-in_default
returns-in_default c = sym (escape-short c.args.s.now c.in_default.len_below)

pub returns-in_default-2 : goal.returns-in_default-2
returns-in_default-2 c = sym (escape-other c.args.s.now (λ e. omega arith))
