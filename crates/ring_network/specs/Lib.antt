-- What callers cite.
pub mod Network
pub mod Replays
pub mod Ring
