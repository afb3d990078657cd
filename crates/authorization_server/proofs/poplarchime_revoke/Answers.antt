-- No reply is longer than the output, and its length is answered as it is.
use Rattle.protocol.proofs.Lengths.{revocation-within}
use Rattle.authorization_server.proofs.poplarchime_revoke.Goals as goal

pub returns-clause-length_in_bounds : goal.returns-clause-length_in_bounds
returns-clause-length_in_bounds c = rw c.from.ensures (revocation-within _ _ _ _ _ _ c.revoke.ensures)
