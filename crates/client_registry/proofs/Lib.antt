-- Laws of the definitions in specs/, for the proofs of this crate and of every crate above it.
--
-- Of use above: Fit, Clients and Lookup; Fields for the bytes of a text.
pub mod Fields
pub mod Records
pub mod Fit
pub mod Clients
pub mod Lookup
pub mod Examples
