-- A public client has no secret; that of a confidential one is the text of its field in the record.
use Rattle.std.proofs.Common.{get_or, sym, ap, ◌∙◌, arith}
use borrow.Author.Tests.{eq-eqb, ne_eqb}
use Rattle.client_registry.specs.Layout.{confidential_kind}
use Rattle.client_registry.specs.Registry.{Client}
use Rattle.client_registry.proofs.Clients.{has-secret, no-secret}
use Rattle.client_registry.proofs.secret.Goals as goal

pub returns-then-r-ne-CONFIDENTIAL_KIND : goal.returns-then-r-ne-CONFIDENTIAL_KIND
returns-then-r-ne-CONFIDENTIAL_KIND c =
    let of = c.record_of-r in
    let r = of.result.now in
    sym (no-secret r of.ensures.sound (ne_eqb (get_or r 0 0) confidential_kind c.if-r-ne-CONFIDENTIAL_KIND.true))
    ∙ ap (λ (x : Client). x.secret) of.ensures.client

pub text-requires : goal.text-requires
text-requires c =
    let of = c.record_of-r in
    let r = of.result.now in
    let secret = has-secret r of.ensures.sound (eq-eqb (get_or r 0 0) confidential_kind c.if-r-ne-CONFIDENTIAL_KIND.false) in
    omega (arith, secret.secret.within, secret.size)

pub returns : goal.returns
returns c = c.text.ensures ∙ ap (λ (x : Client). x.secret) c.record_of-r.ensures.client
