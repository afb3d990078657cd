-- Laws of the definitions in specs/, for the proofs of this crate and of the endpoints that read forms.
pub mod Pieces
pub mod Steps
pub mod Names
pub mod Entering
pub mod Places
pub mod RoundTrip
pub mod Examples
