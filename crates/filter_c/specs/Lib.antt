-- What the exports promise, and what C holds.
pub mod Handles
pub mod Answers
pub mod Openings
