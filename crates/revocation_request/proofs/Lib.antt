-- Laws of a revocation request.
pub mod Readings
