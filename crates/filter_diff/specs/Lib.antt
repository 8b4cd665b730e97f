-- What callers cite: how a run ends, the parts of the routes, what is expected of runs, and which instructions they come to.
pub mod Endings
pub mod Parts
pub mod Answers
pub mod Expectations
pub mod Reaching
pub mod Ordering
-- What only bodies are proved against: classes of routes, and what symbols stand for.
pub mod Classes
pub mod Symbols
pub mod Judging
pub mod Turns
pub mod Searches
pub mod Meeting
pub mod Marking
pub mod Exploring
pub mod Joins
