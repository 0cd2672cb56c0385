-- Definitions that only private contracts, invariants and proofs name. No public contract reaches them.
pub mod Lines
pub mod WrongLookup
