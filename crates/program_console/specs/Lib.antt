-- What callers cite.
pub mod Beside
pub mod Commands
pub mod Ending
pub mod Following
pub mod Limited
pub mod Lists
pub mod Putting
pub mod Reading
pub mod Streaming
