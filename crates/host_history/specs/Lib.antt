-- host_history: demand 3 over the exports, in the numbers and bytes that a C host sees: `Demand3 exports` (crate history has the claim).
--
-- Exports: the exports as a server. Cases: that the numbers mean what they are taken for.
pub mod Exports
pub mod Cases
