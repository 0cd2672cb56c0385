pub mod Address
pub mod Network
pub mod Text
pub mod Admission
