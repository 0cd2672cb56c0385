pub mod Listing
pub mod Telling
pub mod Writing
pub mod Refusing
pub mod Pieces
pub mod Again
