-- The two tests are those of the definition, at the name's place.
use Rattle.protocol.specs.Authorization.{is_bad_redirect}
use Rattle.authorization_query.proofs.Asking.is_bad_redirect.Goals as goal

pub returns : goal.returns
unfolding is_bad_redirect
returns c =
    let a = c.args.self.now in
    rw (c.is_missing.ensures, c.is_once.ensures, c.redirect-registered.ensures, a.named.number, a.read.redirect_uri.value)
