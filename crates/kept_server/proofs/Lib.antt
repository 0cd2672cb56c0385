pub mod Acts
pub mod Starts
pub mod Begun
pub mod Hubs
pub mod Whole
pub mod Cut
pub mod Profiles
