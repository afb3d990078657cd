-- Laws of a query that is answered.
pub mod Locations
