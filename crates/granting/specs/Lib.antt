-- granting: what the contracts of the granting functions say beyond protocol's definitions.
pub mod Granted
