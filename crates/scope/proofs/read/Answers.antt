-- The next text is the first that is left; where it is a name, what is read of the others says what the value says.
use borrow.Author.Rules.{rules}
use borrow.Author.Tests.{tests}
use lib.Dec.{eqb}
use Rattle.std.proofs.Common.{◌≡◌, ◌∷◌, sym, ◌∙◌, ap}
use Rattle.std.proofs.lemmas.Fn.{always_returns_same}
use Rattle.octets.proofs.Splits.{left, left-next}
use Rattle.scope.proofs.Steps.{read_from, read-start, read_name, read-other, read-end}
use Rattle.scope.proofs.read.Goals as goal
use Rattle.scope.proofs.read.Goals.{In-Some}

pub loop-text-init : goal.loop-text-init
loop-text-init c =
    rw (c.into_iter-text-iterator.ensures.into_iter_gives, c.split-text-items.ensures.rest, c.split-text-items.ensures.done) (read-start c.args.v.now)

told : (c : In-Some)
    → left 32 c.loop-text.text-iterator.done c.loop-text.text-iterator.rest.now
    ≡ c.in-Some.text.now ∷ left 32 c.next.new.self.done c.next.new.self.rest.now
told c =
    let h = c.in-Some.ensures.steps in
    let key = h.2 (λ b. eqb b 32) (always_returns_same _ _ _ (λ a r q k. search (rules, tests))) in
    rw h.0 (left-next 32 _ c.in-Some.text.now _ _ h.1 key.1)

pub returns-in_err-named : goal.returns-in_err-named
returns-in_err-named c =
    let l = c.loop-text in
    let t = told (goal.at.returns-in_err-named c).In-Some in
    c.from_residual.ensures
    ∙ sym (read-other l.set c.in-Some.text.now _ (sym c.named.ensures ∙ c.in_err-named.was)) ∙ sym (ap (read_from l.set) t) ∙ l.invariant

pub loop-text-preserved : goal.loop-text-preserved
loop-text-preserved c =
    let l = c.loop-text in
    let t = told (goal.at.loop-text-preserved c).In-Some in
    let n = read_name l.set c.in_ok-named.field-0 c.in-Some.text.now _ (sym c.named.ensures ∙ c.in_ok-named.was) in
    rw c.join-set.ensures (sym n ∙ sym (ap (read_from l.set) t) ∙ l.invariant)

pub returns : goal.returns
returns c =
    let l = c.loop-text in
    sym (read-end l.set l.text-iterator.done c.in-None.ensures.steps.0 l.text-iterator.rest.now) ∙ l.invariant
