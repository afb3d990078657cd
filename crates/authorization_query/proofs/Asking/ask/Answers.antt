-- One test after the other, in the order of the reasons to refuse: the first that applies is answered.
use Rattle.protocol.specs.Refusals.{first_of}
use Rattle.protocol.specs.Authorization.{is_other_type, is_invalid_scope, code_asked, redirect_reasons}
use Rattle.authorization_query.specs.Reading.{asked_of}
use Rattle.authorization_query.proofs.Asking.ask.Goals as goal

pub returns-then-is_invalid_request : goal.returns-then-is_invalid_request
unfolding asked_of redirect_reasons first_of
returns-then-is_invalid_request c = rw (← c.is_invalid_request.ensures, c.if-is_invalid_request.true)

pub returns-then-not-is_once : goal.returns-then-not-is_once
unfolding asked_of redirect_reasons first_of is_other_type
returns-then-not-is_once c =
    let a = c.args.self.now in
    rw (← c.is_invalid_request.ensures, c.if-is_invalid_request.false, ← a.read.response_type.value, ← c.is_once.ensures, c.if-not-is_once.true)

pub returns-then-not-scope_fits : goal.returns-then-not-scope_fits
unfolding asked_of redirect_reasons first_of is_other_type is_invalid_scope
returns-then-not-scope_fits c =
    let a = c.args.self.now in
    rw (
      ← c.is_invalid_request.ensures,
      c.if-is_invalid_request.false,
      ← a.read.response_type.value,
      ← c.is_once.ensures,
      c.if-not-is_once.false,
      ← a.read.scope.value,
      ← a.named.number,
      ← c.scope_asked-asked.ensures,
      ← c.scope_set-held.ensures,
      ← c.scope_fits.ensures,
      c.if-not-scope_fits.true,
    )

pub returns-then-is_denied : goal.returns-then-is_denied
unfolding asked_of redirect_reasons first_of is_other_type is_invalid_scope
returns-then-is_denied c =
    let a = c.args.self.now in
    rw (
      ← c.is_invalid_request.ensures,
      c.if-is_invalid_request.false,
      ← a.read.response_type.value,
      ← c.is_once.ensures,
      c.if-not-is_once.false,
      ← a.read.scope.value,
      ← a.named.number,
      ← c.scope_asked-asked.ensures,
      ← c.scope_set-held.ensures,
      ← c.scope_fits.ensures,
      c.if-not-scope_fits.false,
      ← c.is_denied.ensures,
      c.if-is_denied.true,
    )

pub returns : goal.returns
unfolding asked_of redirect_reasons first_of is_other_type is_invalid_scope code_asked
returns c =
    let a = c.args.self.now in
    rw (
      ← c.is_invalid_request.ensures,
      c.if-is_invalid_request.false,
      ← a.read.response_type.value,
      ← c.is_once.ensures,
      c.if-not-is_once.false,
      ← a.read.scope.value,
      ← a.named.number,
      ← c.scope_asked-asked.ensures,
      ← c.scope_set-held.ensures,
      ← c.scope_fits.ensures,
      c.if-not-scope_fits.false,
      ← c.is_denied.ensures,
      c.if-is_denied.false,
      ← c.scope_given.ensures,
      ← a.read.redirect_uri.value,
      ← c.is_missing.ensures,
    )
