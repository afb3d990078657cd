-- protocol: what the server must do, as definitions that a reader can hold against document 01 sentence by sentence.
--
-- Read them in this order. Limits: the sizes of what a call brings. Answers: the cases of an answer, with their numbers and
-- texts. Refusals: reasons to refuse, of which the first counts. Requests: what a call comes to once it is read.
-- Authorization, ClientForms, Token and Revocation: how a query, and a header with a body, are read, and what is written back.
-- Granting: a request's plan, which says why it is refused and what a grant and a refusal leave in the store's slots.
-- Outcomes: each endpoint's whole outcome.
pub mod Limits
pub mod Answers
pub mod Refusals
pub mod Requests
pub mod Authorization
pub mod ClientForms
pub mod Token
pub mod Revocation
pub mod Granting
pub mod Outcomes
