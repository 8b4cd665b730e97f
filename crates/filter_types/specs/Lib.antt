-- What callers cite.
pub mod Codes
pub mod Faults
pub mod Kinds
pub mod Labels
pub mod Refusals
pub mod Table
-- What only the bodies of this crate are proved against.
pub mod Answers
pub mod Sweep
pub mod Turns
