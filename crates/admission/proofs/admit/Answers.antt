-- The tests come in the order of the refusals. What the test of the registry told is carried by the place past it.
use Rattle.std.proofs.Common.{◌≡◌, Some, None, sym, ◌∙◌, arith}
use Rattle.std.proofs.lemmas.Result.{err_from_is_err_and}
use borrow.Author.Tests.{lt-ltb, le-ltb}
use Rattle.protocol.specs.Refusals.{first_of}
use Rattle.protocol.specs.Outcomes.{admit}
use Rattle.admission.proofs.Admitting.{told-clients, told-unfit}
use Rattle.admission.proofs.admit.Goals as goal

pub returns-then-unfit : goal.returns-then-unfit
unfolding admit first_of
returns-then-unfit c = rw c.if-unfit.true

pub returns-in_err-clients : goal.returns-in_err-clients
unfolding admit first_of
returns-in_err-clients c =
    let refused = err_from_is_err_and c.from_residual.result c.from_residual.ensures.1 in
    let none : c.fitness_of.result ≡ None = grind arith in
    rw (refused.1, refused.2, c.if-unfit.false, told-unfit _ (sym none ∙ c.fitness_of.ensures)) (let said = rw none at c.in_err-clients.ensures.value in cc)

pub returns-then-not-fit : goal.returns-then-not-fit
unfolding admit first_of
returns-then-not-fit c =
    let some : c.fitness_of.result ≡ Some c.in_ok-clients.clients = grind arith in
    let told = told-clients _ _ (sym some ∙ c.fitness_of.ensures) in
    rw (c.if-unfit.false, told.0, ← told.1, ← c.fit.ensures, c.if-not-fit.true)

pub returns-then-late : goal.returns-then-late
unfolding admit first_of
returns-then-late c =
    let some : c.fitness_of.result ≡ Some c.in_ok-clients.clients = grind arith in
    let told = told-clients _ _ (sym some ∙ c.fitness_of.ensures) in
    rw (c.if-unfit.false, told.0, ← told.1, ← c.fit.ensures, c.if-not-fit.false, lt-ltb _ _ c.if-late.true)

pub returns : goal.returns
unfolding admit first_of
returns c =
    let some : c.fitness_of.result ≡ Some c.in_ok-clients.clients = grind arith in
    let told = told-clients _ _ (sym some ∙ c.fitness_of.ensures) in
    rw (c.if-unfit.false, told.0, ← told.1, ← c.fit.ensures, c.if-not-fit.false, le-ltb _ _ c.if-late.false)
