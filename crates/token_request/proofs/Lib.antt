-- Laws of a token request.
pub mod Readings
