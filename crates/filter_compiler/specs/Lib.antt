-- What callers cite.
pub mod Codes
pub mod InstructionPlaces
pub mod Limits
pub mod Meaning
pub mod Need
pub mod Same
pub mod SetOrder
pub mod Translation
pub mod Verdicts
-- What only the bodies of this crate are proved against.
pub mod Mapped
pub mod Written
