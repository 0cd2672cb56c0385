pub mod Classes
pub mod Kept
pub mod Bounded
pub mod Faults
pub mod Parts
