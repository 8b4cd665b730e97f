-- what callers cite
pub mod Codes
pub mod Feeding
pub mod Laws
pub mod Lines
pub mod Table
-- what only bodies are proved against
pub mod Changes
pub mod Looks
pub mod Steps
