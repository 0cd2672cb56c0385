-- Definitions that only private contracts, invariants and proofs name. No public contract reaches them.
pub mod Disk
pub mod Files
pub mod Keeping
pub mod Opening
pub mod Writing
