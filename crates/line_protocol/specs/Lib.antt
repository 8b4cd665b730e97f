-- What callers cite: answers, faults, limits, lines and words, and how a service answers a stream.
pub mod Answers
pub mod Faults
pub mod Limits
pub mod Lines
pub mod Names
pub mod Runs
pub mod Words
-- What only bodies are proved against: how far an engine has come.
pub mod Steps
