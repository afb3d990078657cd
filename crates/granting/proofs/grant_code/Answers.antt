-- A code is one thing to issue, with the handle that the random bytes begin with.
use Rattle.protocol.specs.Granting.{code_plan}
use Rattle.granting.proofs.grant_code.Goals as goal

pub returns : goal.returns
unfolding code_plan
returns c = rw (c.new_code.ensures, c.bytes_at-handle.ensures) at c.grant_single.ensures
