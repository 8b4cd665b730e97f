-- what callers cite
pub mod Codes
pub mod Folders
pub mod Looking
pub mod Segments
pub mod Steps
pub mod Told
-- what only bodies are proved against
pub mod Adding
pub mod Portions
