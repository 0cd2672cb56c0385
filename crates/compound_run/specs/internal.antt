-- Definitions that only private contracts, invariants and proofs name. No public contract reaches them.
pub mod Delaying
pub mod GivenViews
pub mod Listed
pub mod Opening
pub mod Operations
pub mod Permits
pub mod Readdir
pub mod Recorded
pub mod Rename
pub mod SessionViews
pub mod Views
pub mod Written
