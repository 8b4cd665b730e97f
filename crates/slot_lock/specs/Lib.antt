-- what callers cite
pub mod Calls
pub mod Codes
pub mod Counts
pub mod Passes
-- what only bodies are proved against
pub mod Trying
