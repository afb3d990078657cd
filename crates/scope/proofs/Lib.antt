-- Laws of scope sets and scope values, for the proofs of this crate and of every crate above it, and worked examples.
pub mod Set
pub mod Names
pub mod Steps
pub mod Value
pub mod Examples
