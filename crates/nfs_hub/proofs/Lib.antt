pub mod Pieces
pub mod Lines
pub mod Hubs
pub mod TurnLaws
pub mod Arguments
pub mod Logging
pub mod Replaying
pub mod Answering
