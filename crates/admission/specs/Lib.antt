-- admission: what the contracts of this crate, and of the endpoints that stand on it, say of a call's way in and out.
pub mod Entering
