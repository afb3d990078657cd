-- The decision is made on the store, and the location for it leads to the client's registered address.
use Rattle.std.proofs.Common.{rules, ◌≤◌, length, ap, ◌∙◌}
use Rattle.client_registry.specs.Layout.{redirect_room}
use Rattle.token_store.specs.Store.{decode}
use Rattle.granting.proofs.Plans.{map-decides}
use Rattle.authorization_endpoint.specs.Locations.{reading_with}
use Rattle.protocol.specs.Authorization.{challenge_given}
use Rattle.authorization_endpoint.proofs.Locations.{address-short, client-served}
use Rattle.authorization_endpoint.proofs.answer.Goals as goal

pub write_location-length-requires : goal.write_location-length-requires
write_location-length-requires c =
    let known = c.requires.1 in
    let short : length c.redirect-redirect.result.now ≤ redirect_room =
    rw c.redirect-redirect.ensures (address-short _ _ c.requires.0.fit known.entry)
    in
    (record { room = c.requires.4; address = short }, c.requires.3)

pub returns : goal.returns
returns c =
    let a = c.args in
    let whole = (rw c.unwrap.ensures at c.as_mut_array.ensures.cases).same in
    let decided = map-decides c.grant.result c.map-decision.result c.map-decision.ensures.variant (search rules) in
    let challenge = c.challenge_given.ensures ∙ ap challenge_given c.requires.1.challenge in
    rw decided
    (client-served a.registry.now a.query.now a.asking c.requires.1 a.random.now c.requires.3 a.t
    (reading_with a.query.now a.asking.request) (decode a.store.now) _ c.grant.result (rw (challenge, whole) at c.grant.ensures)
    c.redirect-redirect.result.now c.redirect-redirect.ensures a.output.now _ c.write_location-length.result (rw decided at c.write_location-length.ensures))
