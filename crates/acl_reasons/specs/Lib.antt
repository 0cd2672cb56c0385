pub mod Applicabilities
pub mod Reasons
pub mod Shares
pub mod Removals
pub mod SideViews
