pub mod Steps
pub mod Replies
pub mod GroupSets
pub mod Unique
pub mod Calls
pub mod Answers
