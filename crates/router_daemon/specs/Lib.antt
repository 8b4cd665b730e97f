-- what callers cite
pub mod Codes
pub mod Endings
pub mod Noting
pub mod Running
pub mod Spares
pub mod StatesView
pub mod Steps
-- what only bodies are proved against
pub mod RequestGate
pub mod Forgetting
pub mod Links
pub mod Passes
pub mod Queues
pub mod Retries
pub mod Sessions
pub mod Sets
pub mod Stations
pub mod Notices
pub mod Uses
