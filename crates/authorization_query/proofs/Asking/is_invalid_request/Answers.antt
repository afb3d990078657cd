-- The five tests are those of the definition, at the names' places.
use Rattle.protocol.specs.Authorization.{is_invalid_request}
use Rattle.authorization_query.proofs.Asking.is_invalid_request.Goals as goal

pub returns : goal.returns
unfolding is_invalid_request
returns c =
    let read = c.args.self.now.read in
    rw (
      c.is_missing.ensures,
      c.is_repeated.ensures,
      c.is_repeated-2.ensures,
      c.is_bad_state.ensures,
      c.is_bad_challenge.ensures,
      read.response_type.value,
      read.scope.value,
      read.state.value,
    )
