pub mod Walking
pub mod AppliedChanges
pub mod Alike
pub mod Applied
