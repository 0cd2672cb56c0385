pub mod Granting
pub mod Most
