pub mod Turns
pub mod WrongRules
