-- Laws of the definitions in specs/, for the proofs of this crate and of every crate above it.
pub mod Booleans
pub mod Table
pub mod Lists
pub mod Stores
pub mod BigEndian
pub mod Pieces
pub mod Splits
pub mod Writing
pub mod Searches
pub mod Counting
