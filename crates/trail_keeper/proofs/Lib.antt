pub mod Lines
pub mod Kept
mod Once
pub mod Dates
