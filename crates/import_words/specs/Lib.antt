-- What callers cite.
pub mod Meaning
pub mod Program
