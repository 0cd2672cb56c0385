pub use Rattle.rpc_record.specs.Identity
pub mod Mask
pub mod Places
pub mod Kinds
pub mod Principals
pub mod Deciding
pub mod Verdicts
pub mod Summaries
