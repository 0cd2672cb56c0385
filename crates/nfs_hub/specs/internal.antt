-- Definitions that only private contracts, invariants and proofs name. No public contract reaches them.
pub mod Connection
pub mod Log
pub mod Replaying
pub mod Served
