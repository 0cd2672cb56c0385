pub mod Reading
pub mod Choosing
pub mod Fates
pub mod Growing
