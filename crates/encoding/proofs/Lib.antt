-- Laws of the definitions in specs/.
pub mod Options
pub mod Hex
pub mod Base64Groups
pub mod Base64
pub mod Chunks
pub mod Digests
pub mod Examples
