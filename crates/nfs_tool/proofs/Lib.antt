pub mod ScriptTexts
pub mod Scripts
pub mod Visiting
pub mod Taking
