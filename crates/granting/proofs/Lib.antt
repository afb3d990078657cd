-- Laws of what follows from a plan, for the proofs of this crate's functions, and examples.
pub mod Plans
pub mod Examples
