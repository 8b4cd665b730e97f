pub mod Answered
pub mod Bytes
pub mod FileBytes
pub mod Files
pub mod Formats
pub mod Grammar
pub mod Old
pub mod Parts
pub mod Prefixes
pub mod Ranges
mod Rows
pub mod Steps
pub mod Times
pub mod Written
