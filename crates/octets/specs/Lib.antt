-- octets: what the contracts of this crate, and of every crate above it, say about lists of bytes.
--
-- Text: a text as its bytes. Lists: parts, tests, equality and pieces of lists of bytes. BigEndian: numbers in bytes.
-- Search: lists searched and counted. Writing: texts one behind the other.
pub mod Text
pub mod Lists
pub mod BigEndian
pub mod Search
pub mod Writing
