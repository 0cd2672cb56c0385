pub mod Answer
pub mod Replaying
pub mod Machine
pub mod Connection
pub mod Hub
pub mod Served
pub mod internal
