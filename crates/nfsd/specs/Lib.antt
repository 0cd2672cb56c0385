pub mod Books
pub mod NearLimits
pub mod Profiles
