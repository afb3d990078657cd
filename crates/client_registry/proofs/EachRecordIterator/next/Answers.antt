-- The first record is taken off, and where no bytes are left there is none.
use Rattle.std.proofs.Common.{◌≡◌, ◌<◌, ◌∷◌, length, rules, sym, ap, ◌∙◌, arith}
use borrow.Author.Tests.{eqb-true, eqb-false}
use Rattle.client_registry.specs.Registry.{records}
use Rattle.client_registry.proofs.Records.{no-records, first-record}
use Rattle.client_registry.proofs.EachRecordIterator.next.Goals as goal

pub returns-then-is_empty-clause-steps : goal.returns-then-is_empty-clause-steps
returns-then-is_empty-clause-steps c =
    let none = no-records c.args.self.now.rest.now (eqb-true _ 0 (sym c.is_empty.ensures ∙ c.if-is_empty.true)) in
    (none, none)

pub returns-clause-steps : goal.returns-clause-steps
returns-clause-steps c =
    let b = c.args.self.now.rest.now in
    let more = eqb-false (length b) 0 (sym c.is_empty.ensures ∙ c.if-is_empty.false) in
    rw (c.split_at.ensures.front, c.split_at.ensures.back, c.min-size.ensures, c.record_size.ensures) (first-record b (omega arith))

pub returns-clause-goes : goal.returns-clause-goes
returns-clause-goes c =
    let b = c.args.self.now.rest.now in
    let more = eqb-false (length b) 0 (sym c.is_empty.ensures ∙ c.if-is_empty.false) in
    let steps : records b ≡ c.split_at.result.0.now ∷ records c.split_at.result.1.now =
    rw (c.split_at.ensures.front, c.split_at.ensures.back, c.min-size.ensures, c.record_size.ensures) (first-record b (omega arith))
    in
    let fewer : length (records c.split_at.result.1.now) < length (records b) = omega (arith, ap length steps) in
    search rules
