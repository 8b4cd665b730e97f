-- What callers cite.
pub mod Codes
-- What the bodies of this crate and of `filter_parser` are proved against.
pub mod Levels
pub mod Readers
pub mod Reading
pub mod Steps
