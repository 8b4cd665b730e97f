-- What callers cite.
pub mod Best
pub mod Calls
pub mod Codes
pub mod Consistent
pub mod FilteredDistance
pub mod Kept
pub mod Leading
pub mod Next
pub mod OpeningView
pub mod Openings
pub mod Present
pub mod Room
pub mod Whole
pub mod World
-- What only the bodies of this crate are proved against.
pub mod Handling
pub mod Recomputing
