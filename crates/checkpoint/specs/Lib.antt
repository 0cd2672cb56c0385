pub mod Head
pub mod Kept
pub mod Holds
pub mod Covering
pub mod Reading
pub mod Writing
pub mod Counting
pub mod internal
