-- Demand 3, proved: the theorem is `demand3` in Theorem, with `credentials-yield` and `revocations` beside it; what follows from it for a token
-- that was revoked is `revoked-for-good` in ForGood. Demand 1, proved: the theorem is `demand1` in AnyStore.
--
-- Read Theorem first, then down: AllCalls (every list of calls), Shown (what the claim reads from a call is what it issued), AnyCall
-- (one call on bytes), OneRequest (one request on slots), Invariant (the idea, over the slots of HeldIssues). Readings, SoundStores and
-- Written: what is read fits a slot, so that the store stays fit, and what is written fits the output. Asking says who calls and what is
-- asked, SecondShowing when a code is shown again, Revoked what goes with a token that is revoked, Challenges which verifier answers a
-- code's challenge. Meaning says what it is to stand; Examples and Visit show that the claim is not empty, by CallsOnRecords;
-- ShutOut that it shuts out other servers, those of UselessServers, by ServersOnRecords. Sample: what holds of the sample registry; Computing: what the
-- examples compute with.
pub mod Challenges
pub mod HeldIssues
pub mod Invariant
pub mod Readings
pub mod Asking
pub mod Revoked
pub mod OneRequest
pub mod SoundStores
pub mod AnyCall
pub mod SecondShowing
pub mod Written
pub mod Shown
pub mod AllCalls
pub mod Theorem
pub mod AnyStore
pub mod Meaning
pub mod ForGood
pub mod CallsOnRecords
pub mod Sample
pub mod ServersOnRecords
pub mod Computing
pub mod Examples
pub mod Visit
pub mod AnyStoreExamples
pub mod UselessServers
pub mod ShutOut
