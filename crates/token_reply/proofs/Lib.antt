-- Laws of a reply's parts.
pub mod Parts
