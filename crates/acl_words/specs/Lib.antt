pub mod Fields
pub mod Letters
pub mod Words
pub mod WordViews
pub mod Entries
pub mod Lists
pub mod Help
pub mod Rights
