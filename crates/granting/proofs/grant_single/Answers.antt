-- The tests come in the order of the plan's reasons. Past them the code or token is issued on the store as it was.
use Rattle.std.proofs.Common.{rules, refl}
use Rattle.protocol.proofs.Reasons.{none, stop, pass}
use Rattle.granting.proofs.Plans.{refuses, grants}
use Rattle.granting.proofs.grant_single.Goals as goal

pub returns-then-not-has_room : goal.returns-then-not-has_room
returns-then-not-has_room c = refuses (stop (search rules)) refl

pub returns-then-clashes : goal.returns-then-clashes
returns-then-clashes c = refuses (pass (search rules) (stop (search rules))) refl

pub returns : goal.returns
returns c = grants (pass (search rules) (pass (search rules) none)) refl c.issue.ensures
