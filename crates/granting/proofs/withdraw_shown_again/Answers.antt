-- A code that is found, whosever it is and run out or not, ends the search; so does a spent one that is not found, not live or not the
-- client's. Else the code is shown again, and what is cleared is what came from it.
use Rattle.token_store.specs.declared.Sought.TheVariants.{Code, Spent}
use Rattle.granting.proofs.Plans.{found-any, own-any, own-presented}
use Rattle.granting.proofs.withdraw_shown_again.Goals as goal

pub returns-then-is_some : goal.returns-then-is_some
returns-then-is_some c =
    let a = c.args in
    rw (found-any a.t.seconds a.client Code a.presented a.store.now _ c.find.ensures, ← c.is_some.ensures, c.if-is_some.true)

pub returns-then-is_none : goal.returns-then-is_none
returns-then-is_none c =
    let a = c.args in
    rw (
      found-any a.t.seconds a.client Code a.presented a.store.now _ c.find.ensures,
      ← c.is_some.ensures,
      c.if-is_some.false,
      own-any a.t.seconds a.client Spent a.presented a.store.now _ c.find_own.ensures,
      c.if-is_none.ensures,
    )

pub returns-in-Some : goal.returns-in-Some
returns-in-Some c =
    let a = c.args in
    rw (
      found-any a.t.seconds a.client Code a.presented a.store.now _ c.find.ensures,
      ← c.is_some.ensures,
      c.if-is_some.false,
      own-any a.t.seconds a.client Spent a.presented a.store.now _ c.find_own.ensures,
      c.if-is_none.ensures,
      c.in-Some.is,
    )
    c.clear_tokens.ensures

pub returns-in_default : goal.returns-in_default
returns-in_default c =
    let a = c.args in
    absurd (own-presented a.t.seconds a.client Spent a.presented a.store.now _ c.find_own.ensures c.if-is_none.ensures c.in_default.is)
