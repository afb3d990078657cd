-- Laws of the definitions in specs/, for the proofs of this crate and of the crates above it, and worked examples.
pub mod Coding
pub mod Turns
pub mod Cuts
pub mod RoundTrip
pub mod Examples
