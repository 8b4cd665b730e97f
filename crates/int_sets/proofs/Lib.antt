pub mod Holding
pub mod Merging
pub mod Rows
pub mod Searching
