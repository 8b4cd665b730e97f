-- What callers cite.
pub mod Codes
