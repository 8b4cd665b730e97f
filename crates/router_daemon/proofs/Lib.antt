pub mod RequestGate
mod EmptyQueues
pub mod Entering
pub mod FullCalls
pub mod Greetings
pub mod KeptEntries
pub mod Lines
pub mod Looking
mod Notes
pub mod Passes
pub mod Running
mod Sparing
pub mod SavedWhole
pub mod Serving
pub mod Splitting
pub mod Waking
