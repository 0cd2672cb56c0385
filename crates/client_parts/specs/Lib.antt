pub mod Forms
pub mod Applying
pub mod Comparing
pub mod PartCount
pub mod internal
