pub mod Again
pub mod Counting
pub mod Sizes
pub mod Spelled
pub mod Taking
