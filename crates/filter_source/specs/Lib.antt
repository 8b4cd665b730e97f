-- What callers cite.
pub mod Limits
pub mod Refusals
pub mod Diagnoses
pub mod Failures
pub mod Sources
pub mod TextPlaces
pub mod VerifiedLine
pub mod BoundsLine
