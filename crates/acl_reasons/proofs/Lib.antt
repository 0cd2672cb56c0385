pub mod Deciding
pub mod Denying
pub mod Sharing
