pub mod Names
pub mod Content
pub mod Members
pub mod Document
pub mod Outlines
pub mod Indexes
pub mod Books
pub mod Spelling
