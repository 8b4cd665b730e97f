pub mod Building
pub mod Filtered
pub mod Lettering
pub mod Meeting
pub mod Naming
pub mod Parsing
