pub mod Beginning
pub mod Steps
pub mod Kept
pub mod Law
