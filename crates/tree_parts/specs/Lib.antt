pub mod Forms
pub mod Parts
pub mod Taken
pub mod Again
