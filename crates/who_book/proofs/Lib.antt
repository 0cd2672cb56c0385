pub mod Documents
pub mod RollTables
pub mod Tables
pub mod Ranges
pub mod Spelled
pub mod Agreeing
pub mod Enrolling
