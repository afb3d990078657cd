-- form: application/x-www-form-urlencoded, as document 01 reads and writes it (RFC 6749, Appendix B).
--
-- How one name or value is coded is the crate form_coding. Content: what a form says of a name, by its pieces alone; this is what the
-- promises speak of. Places: where the reader finds it. Writing: a whole form from names and values.
pub mod Content
pub mod Places
pub mod Writing
