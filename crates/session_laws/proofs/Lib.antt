pub mod Turning
pub mod Forgetting
pub mod Recording
