-- What callers cite.
pub mod Filters
