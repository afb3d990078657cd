-- The piece ends at the next & of the rest of the form, or with the form; past the form there is none.
use Rattle.std.proofs.Common.{◌≡◌, ◌+◌, ◌-◌, ◌<◌, ◌≤◌, length, arith, sym, ◌∙◌, ap}
use Rattle.octets.specs.Lists.{part, index_of}
use Rattle.form.proofs.Steps.{found_within, step-piece, step_end}
use Rattle.form.proofs.Cursor.next.Goals as goal
use Rattle.form.proofs.Cursor.next.Goals.{After-index_of}

pub returns-in_err-rest : goal.returns-in_err-rest
returns-in_err-rest c =
    let h = c.in_err-rest.ensures.lookup in
    let past : length c.args.s.now < c.args.self.at = grind arith in
    c.from_residual.ensures ∙ sym (step_end c.args.s.now c.args.self.at past)

-- the rest of the form is searched
found : (c : After-index_of)
    → let s = c.args.s.now in
    let at = c.args.self.at in
    (c.index_of.result ≡ index_of 38 (part s at (length s - at))) × (at ≤ length s)
found c = let h = c.in_ok-rest.ensures.lookup in (c.index_of.ensures ∙ ap (index_of 38) h.0.2, omega (arith, h))

-- the piece ends within the form
fits : (c : After-index_of) → c.args.self.at + c.index_of.result ≤ length c.args.s.now
fits c = found_within c.args.s.now c.args.self.at c.index_of.result (found c).0 (found c).1

pub overflow_add-end : goal.overflow_add-end
overflow_add-end c = omega (arith, fits (goal.at.overflow_add-end c).After-index_of)

pub overflow_add-result : goal.overflow_add-result
overflow_add-result c = omega (arith, fits (goal.at.overflow_add-result c).After-index_of)

pub returns : goal.returns
returns c =
    let f = found (goal.at.returns c).After-index_of in
    sym (step-piece c.args.s.now c.args.self.at c.index_of.result f.0 f.1)
