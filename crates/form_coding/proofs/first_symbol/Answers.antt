-- A +, an escape and any other byte: each is the definition's case.
use Rattle.std.proofs.Common.{sym}
use Rattle.form_coding.proofs.Coding.{symbol-escape, symbol-space, symbol-itself}
use Rattle.form_coding.proofs.first_symbol.Goals as goal

pub returns-then-s-eq43 : goal.returns-then-s-eq43
returns-then-s-eq43 c = sym (symbol-space c.args.s.now c.if-s-eq43.true)

pub returns-in-Some : goal.returns-in-Some
returns-in-Some c = sym (symbol-escape c.args.s.now c.in-Some.byte (sym c.in-Some.ensures))

pub returns-in-None : goal.returns-in-None
returns-in-None c = sym (symbol-itself c.args.s.now (sym c.in-None.ensures) c.if-s-eq43.false)
