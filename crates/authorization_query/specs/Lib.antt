-- authorization_query: what reading a query answers, by protocol's definitions.
pub mod Reading
