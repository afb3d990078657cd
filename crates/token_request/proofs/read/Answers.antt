-- A call that is refused comes first; the request of a client is read by its grant type.
use Rattle.std.proofs.Common.{◌∙◌}
use Rattle.token_request.proofs.Readings.{client-names, read-refused, let-in, read-client}
use Rattle.token_request.proofs.read.Goals as goal

pub read-requires : goal.read-requires
read-requires c = (c.requires, client-names)

pub invariant_of-read : goal.invariant_of-read
invariant_of-read c = record { let_in = let-in c.read.ensures c.in-Ok.is }

pub returns-in-Ok : goal.returns-in-Ok
returns-in-Ok c = c.read-in-Ok.ensures ∙ read-client c.read.ensures c.in-Ok.is

pub returns-in-Err : goal.returns-in-Err
returns-in-Err c = c.refuse.ensures ∙ read-refused c.read.ensures c.in-Err.is
