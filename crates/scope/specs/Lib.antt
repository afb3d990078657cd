-- scope: sets of the eight scope names (RFC 6749, section 3.3). Set: a set as a number. Value: a set as a text.
pub mod Set
pub mod Value
