-- What callers cite.
pub mod Explanations
pub mod Places
pub mod Positions
pub mod Shown
pub mod Spelled
-- What only the bodies of this crate are proved against.
pub mod Ranges
