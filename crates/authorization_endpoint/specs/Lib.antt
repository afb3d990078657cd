-- authorization_endpoint: what a query that was read comes to.
pub mod Locations
