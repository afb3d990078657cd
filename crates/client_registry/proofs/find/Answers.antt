-- The records are passed one by one until a client has the id, whose number is then that of the records passed.
use Rattle.std.proofs.Common.{rules, sym, ◌∙◌, arith}
use Rattle.client_registry.proofs.Fit.{fit-records}
use Rattle.client_registry.proofs.Lookup.{passed-first, passed-sound, passed-below, passed-within, passed-here, passed-next, passed-all}
use Rattle.client_registry.proofs.find.Goals as goal

pub loop-r-init : goal.loop-r-init
loop-r-init c = record {
  can = search rules;
  ends = search rules;
  passed = rw (c.into_iter-r-iterator.ensures.into_iter_gives, c.each_record-r-items.ensures) (passed-first c.args.b.now c.args.id.now c.requires);
}

pub has_id-requires : goal.has_id-requires
has_id-requires c = passed-sound c.loop-r.invariant.passed c.in-Some.ensures.steps

pub returns-then-has_id : goal.returns-then-has_id
returns-then-has_id c =
    passed-here c.loop-r.invariant.passed c.in-Some.ensures.steps (sym c.has_id.ensures ∙ c.if-has_id.true)

pub overflow_add-start : goal.overflow_add-start
overflow_add-start c = omega (arith, passed-within c.loop-r.invariant.passed c.in-Some.ensures.steps)

pub overflow_add-number : goal.overflow_add-number
overflow_add-number c =
    omega (arith, passed-below c.loop-r.invariant.passed c.in-Some.ensures.steps, (fit-records c.args.b.now c.requires).most)

pub loop-r-preserved : goal.loop-r-preserved
loop-r-preserved c = record {
  can = search rules;
  ends = search rules;
  passed = passed-next c.loop-r.invariant.passed c.in-Some.ensures.steps (sym c.has_id.ensures ∙ c.if-has_id.false);
}

pub returns : goal.returns
returns c = passed-all c.loop-r.invariant.passed c.in-None.ensures.steps.0
