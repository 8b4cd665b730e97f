mod FirstLine
pub mod Indexes
mod Repeats
mod Rows
mod Statements
mod Texts
