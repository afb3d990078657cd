-- history: demand 3, one claim about every list of calls at the four endpoints, what is claimed of them beyond it, and demand 1,
-- one claim about every call on any store.
--
-- Calls: a call, what comes of it, any server, and a run of calls over one registry and one store. Contents: what the calls
-- contain, read from their arguments and answers alone. Slots: what is looked at in a store's bytes. Claim: what is claimed of every
-- list of calls. Revoked: what follows for a token that was revoked. Server: our server. AnyStore: what is
-- claimed of every call of it on any store.
--
-- All that a reader must believe stands here. What only serves the proofs, as calls over a store that is a record, is in
-- proofs/.
pub mod Calls
pub mod Contents
pub mod Slots
pub mod Claim
pub mod Revoked
pub mod Server
pub mod AnyStore
