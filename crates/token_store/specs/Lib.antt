-- token_store: the codes and tokens that were issued, in bytes.
--
-- Layout: sizes and places. Store: slots, their tests and searches, and how a store's bytes are read and written. Fit:
-- which bytes are a store.
pub mod Layout
pub mod Store
pub mod Fit
