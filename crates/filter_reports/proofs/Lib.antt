pub mod Coded
pub mod CommandsFit
pub mod FileLength
pub mod InstructionsFit
pub mod LexemeLimits
mod LineRows
pub mod Listings
pub mod Printed
pub mod Rewritten
pub mod Saying
pub mod SetMembers
pub mod SetsFit
mod Surveyed
pub mod TextFiles
pub mod TextLines
pub mod TextMembers
pub mod VerifiedFilters
pub mod WholeInput
