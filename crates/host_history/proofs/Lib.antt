-- Demand 3 over the exports, proved: the theorem is `host-demand3` in Theorem.
--
-- Endpoints: what each endpoint can decide. Numbers: so its numbers tell what the claim asks of an answer. Theorem: so the exports are
-- the server of crate history, and its theorem says the rest. Visit shows that the claim is not empty.
pub mod Endpoints
pub mod Numbers
pub mod Theorem
pub mod Visit
