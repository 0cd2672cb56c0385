pub mod Served
pub mod Logged
pub mod Settled
pub mod Replayed
