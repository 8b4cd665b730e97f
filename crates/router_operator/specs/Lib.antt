-- what callers cite
pub mod Lookers
pub mod OperatorView
pub mod Operators
pub mod Questions
pub mod Reloading
pub mod Running
pub mod Telling
-- what only bodies are proved against
pub mod Looking
pub mod Names
