-- sha256: the hash function SHA-256 of FIPS 180-4, as the standard defines it.
--
-- Functions: words and the six functions. Constants: the tables. Digest: padding, the schedule, the rounds and the digest.
pub mod Functions
pub mod Constants
pub mod Digest
