-- What callers cite: what contracts see of a script, what one that is started with filters answers, and what is saved of it.
pub mod State
pub mod Faults
pub mod Naming
pub mod Stopping
pub mod Saved
pub mod Running
-- What only bodies are proved against.
pub mod News
