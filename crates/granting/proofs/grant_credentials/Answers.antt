-- A client's token for itself is one access token to issue, with the handle that the random bytes begin with.
use Rattle.protocol.specs.Granting.{credentials_plan}
use Rattle.granting.proofs.grant_credentials.Goals as goal

pub returns : goal.returns
unfolding credentials_plan
returns c = rw (c.client_token.ensures, c.bytes_at-handle.ensures) at c.grant_access.ensures
