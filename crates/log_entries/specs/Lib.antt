pub mod Forms
pub mod Entries
pub mod Checksum
pub mod Views
