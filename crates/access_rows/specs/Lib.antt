pub mod Rights
pub mod Rows
