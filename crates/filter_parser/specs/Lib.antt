-- What callers cite.
pub mod Heads
pub mod Telling
pub mod Unspelled
-- What only the bodies of this crate are proved against.
pub mod ReadingCommands
