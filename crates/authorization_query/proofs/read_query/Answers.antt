-- The client is looked up first, then the redirect address is compared: the first of refusals 5 to 7 that applies is
-- answered. Past them the answer is what the client's query asks.
use Rattle.std.proofs.Common.{◌≡◌, Some, None, sym, ◌∙◌, arith}
use Rattle.protocol.specs.declared.PageCause.TheVariants.{Client}
use Rattle.std.proofs.lemmas.Result.{err_from_is_err_and}
use Rattle.protocol.specs.Authorization.{page_reasons}
use Rattle.protocol.proofs.Reasons.{stop, pass}
use Rattle.authorization_query.proofs.Reasons.{good-query, unknown-client, repeated-redirect, good-client, named, field-within, field-value, read-page, read-client}
use Rattle.authorization_query.proofs.read_query.Goals as goal

pub returns-in_err-names : goal.returns-in_err-names
unfolding page_reasons
returns-in_err-names c =
    let a = c.args in
    let refused = err_from_is_err_and c.from_residual.result c.from_residual.ensures.1 in
    rw (refused.1, refused.2, c.in_err-names.ensures.0) (read-page a.registry.now a.query.now _ _ _ (stop c.in_err-names.ensures.1))

pub returns-in_err-client : goal.returns-in_err-client
unfolding page_reasons
returns-in_err-client c =
    let a = c.args in
    let read = c.in_ok-names.ensures in
    let none : c.client_named-named.result ≡ None = grind arith in
    let unknown = unknown-client a.registry.now a.query.now (rw read.client_id.value at (sym c.client_named-named.ensures ∙ none)) in
    let refused = err_from_is_err_and c.from_residual-in_err-client.result c.from_residual-in_err-client.ensures.1 in
    let cause : c.in_err-client.field-0.0 ≡ Client = (let said = rw none at c.in_err-client.ensures.value in cc) in
    rw (refused.1, refused.2, cause) (read-page a.registry.now a.query.now _ _ _ (pass (good-query _ read) (stop unknown)))

pub returns-then-is_repeated : goal.returns-then-is_repeated
unfolding page_reasons
returns-then-is_repeated c =
    let a = c.args in
    let read = c.in_ok-names.ensures in
    let twice = repeated-redirect a.registry.now a.query.now (rw read.redirect_uri.value at (sym c.is_repeated.ensures ∙ c.if-is_repeated.true)) in
    read-page a.registry.now a.query.now _ _ _ (pass (good-query _ read) (stop twice))

pub invariant_of-asking : goal.invariant_of-asking
invariant_of-asking c =
    let a = c.args in
    let read = c.in_ok-names.ensures in
    let some : c.client_named-named.result ≡ Some c.in_ok-client.client = grind arith in
    record {
      read = read;
      fit = c.requires;
      named = named a.registry.now a.query.now c.requires c.in_ok-client.client (rw read.client_id.value at (sym c.client_named-named.ensures ∙ some));
    }

pub returns-then-is_bad_redirect : goal.returns-then-is_bad_redirect
unfolding page_reasons
returns-then-is_bad_redirect c =
    let a = c.args in
    let read = c.in_ok-names.ensures in
    let some : c.client_named-named.result ≡ Some c.in_ok-client.client = grind arith in
    let found = rw read.client_id.value at (sym c.client_named-named.ensures ∙ some) in
    let once = rw read.redirect_uri.value at (sym c.is_repeated.ensures ∙ c.if-is_repeated.false) in
    let other = sym c.is_bad_redirect.ensures ∙ c.if-is_bad_redirect.true in
    read-page a.registry.now a.query.now _ _ _
    (pass (good-query _ read) (pass (good-client a.registry.now a.query.now c.requires c.in_ok-client.client found once) (stop other)))

pub returns : goal.returns
returns c =
    let a = c.args in
    let read = c.in_ok-names.ensures in
    let some : c.client_named-named.result ≡ Some c.in_ok-client.client = grind arith in
    let found = rw read.client_id.value at (sym c.client_named-named.ensures ∙ some) in
    let once = rw read.redirect_uri.value at (sym c.is_repeated.ensures ∙ c.if-is_repeated.false) in
    let named = named a.registry.now a.query.now c.requires c.in_ok-client.client found in
    read-client a.registry.now a.query.now _ _ _ (good-query _ read) (good-client a.registry.now a.query.now c.requires c.in_ok-client.client found once)
    (sym c.is_bad_redirect.ensures ∙ c.if-is_bad_redirect.false)
    c.request.ensures
    (record {
      entry = named.entry;
      number = named.number;
      short = read.short;
      within = field-within read.state;
      state = field-value read.state;
      challenge_within = field-within read.challenge;
      challenge = field-value read.challenge;
    })
