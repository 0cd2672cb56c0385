pub mod Faults
pub mod Held
pub mod Judging
pub mod Rooms
pub mod Spots
pub mod Stops
