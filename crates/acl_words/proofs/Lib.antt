pub mod Splitting
pub mod Masks
pub mod Lettering
pub mod Again
pub mod ByBook
pub mod Listing
