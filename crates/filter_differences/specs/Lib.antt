pub mod PartLines
pub mod Differences
