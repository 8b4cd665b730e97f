-- What callers cite.
pub mod Play
