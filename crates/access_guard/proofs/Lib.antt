pub mod Lines
pub mod SilentGrants
pub mod Remembering
pub mod Calls
pub mod Hits
pub mod Hashing
