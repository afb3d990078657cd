-- Laws of the definitions in specs/, for the proofs of this crate and of every crate above it.
pub mod Tables
pub mod Slots
pub mod Codec
pub mod Scans
pub mod Fits
pub mod Longer
pub mod LongerStores
