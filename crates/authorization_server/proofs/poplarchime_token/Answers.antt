-- No reply is longer than the output, and its length is answered as it is.
use Rattle.protocol.proofs.Lengths.{reply-within}
use Rattle.authorization_server.proofs.poplarchime_token.Goals as goal

pub returns-clause-length_in_bounds : goal.returns-clause-length_in_bounds
returns-clause-length_in_bounds c = rw c.from.ensures (reply-within _ _ _ _ _ c.token.ensures)
