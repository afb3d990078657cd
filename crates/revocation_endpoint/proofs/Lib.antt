-- Laws of a revocation that is served.
pub mod Served
