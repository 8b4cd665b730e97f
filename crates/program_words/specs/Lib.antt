-- What callers cite.
pub mod Given
pub mod Showing
pub mod Sources
