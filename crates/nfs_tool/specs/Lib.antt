pub mod LocalStreams
pub mod ScriptLines
pub mod ScriptViews
pub mod Reloading
pub mod Script
