-- client_registry: the clients that may ask for tokens, in bytes.
--
-- Layout: the numbers. Registry: when bytes are a registry, and its clients. Lookup: a client by its id. Sample: the
-- clients of document 01's worked visit.
pub mod Layout
pub mod Registry
pub mod Lookup
pub mod Sample
