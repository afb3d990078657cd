-- No location is longer than the output, and its length is answered as it is.
use Rattle.protocol.proofs.Lengths.{location-within}
use Rattle.authorization_server.proofs.poplarchime_authorize.Goals as goal

pub returns-clause-length_in_bounds : goal.returns-clause-length_in_bounds
returns-clause-length_in_bounds c = rw c.from.ensures (location-within _ _ _ _ _ _ c.authorize.ensures)
