-- What callers cite.
pub mod Causes
pub mod Telling
