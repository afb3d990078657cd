-- parameters: what a field says of its name.
pub mod Fields
