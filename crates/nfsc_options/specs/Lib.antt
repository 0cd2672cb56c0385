pub mod Simple
pub mod Given
