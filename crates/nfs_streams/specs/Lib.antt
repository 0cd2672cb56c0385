pub mod Acts
pub mod Runs
pub mod Seats
pub mod Keeping
pub mod Stages
pub mod All
