pub mod Appended
pub mod Written
pub mod AppendedLines
pub mod Keeping
pub mod Dates
