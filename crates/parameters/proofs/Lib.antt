-- Laws of values that are decoded into a buffer, and of the scope, the state and the challenge that they are.
pub mod Buffers
pub mod Scopes
pub mod States
pub mod Challenges
