pub mod Forms
pub mod internal
