-- Laws of refusals 1 to 4.
pub mod Admitting
