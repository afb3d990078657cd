-- A call that is refused comes first; of a client's token, which must be there, the text is read as a handle.
use Rattle.std.proofs.Common.{◌∙◌}
use lib.Dec.{lit<}
use Rattle.revocation_request.proofs.Readings.{client-names, read-refused, let-in, read-client}
use Rattle.revocation_request.proofs.read.Goals as goal

pub read-requires : goal.read-requires
read-requires c = (c.requires, client-names)

pub invariant_of-handle_presented : goal.invariant_of-handle_presented
invariant_of-handle_presented c =
    let known = let-in c.read.ensures c.in-Ok.is in
    record { within = (known.stands.at 2 (lit< tt)).within; short = known.short }

pub returns-in-Ok : goal.returns-in-Ok
returns-in-Ok c = c.presenting.ensures ∙ read-client c.read.ensures c.in-Ok.is _ c.handle_presented.ensures

pub returns-in-Err : goal.returns-in-Err
returns-in-Err c = c.refuse.ensures ∙ read-refused c.read.ensures c.in-Err.is
