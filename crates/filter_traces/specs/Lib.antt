-- What callers cite.
pub mod Coverage
pub mod TracedView
pub mod Whys
-- What only the bodies of this crate are proved against.
pub mod Commands
pub mod Hits
pub mod Sites
pub mod Steps
pub mod Shown
