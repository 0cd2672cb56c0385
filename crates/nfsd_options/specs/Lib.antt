pub mod Simple
pub mod Given
pub mod Mistakes
pub mod Lists
pub mod Profiles
