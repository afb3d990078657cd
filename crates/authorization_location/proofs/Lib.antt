-- Laws of the parts of a location.
pub mod Parts
