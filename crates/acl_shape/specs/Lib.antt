pub mod Mode
pub mod Bounds
pub mod Inherited
pub mod Admitted
pub mod Permissions
pub mod Parts
