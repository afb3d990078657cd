-- The query is read: an error page writes nothing and leaves the slots, and the query of a client is answered.
use Rattle.std.proofs.Common.{refl}
use Rattle.client_registry.specs.Registry.{clients_of}
use Rattle.token_store.specs.Store.{decode}
use Rattle.authorization_endpoint.proofs.Locations.{query-random, reading-served, page-served}
use Rattle.authorization_endpoint.proofs.serve.Goals as goal

pub answer-requires : goal.answer-requires
answer-requires c =
    let a = c.args in
    let asked = query-random (clients_of a.registry.now) a.query.now a.decision a.farm in
    (c.requires.0, c.in-Ok.ensures.known _ refl, rw (← c.in-Ok.ensures.request) at asked, c.requires.1, c.requires.2)

pub returns-in-Err : goal.returns-in-Err
returns-in-Err c =
    let a = c.args in
    let clients = clients_of a.registry.now in
    reading-served clients a.query.now a.decision a.farm a.t a.random.now _ c.in-Err.ensures.request
    (page-served clients a.query.now a.t a.random.now (decode a.store.now) _ a.output.now)

pub returns-in-Ok : goal.returns-in-Ok
returns-in-Ok c =
    let a = c.args in
    reading-served (clients_of a.registry.now) a.query.now a.decision a.farm a.t a.random.now _ c.in-Ok.ensures.request c.answer.ensures
