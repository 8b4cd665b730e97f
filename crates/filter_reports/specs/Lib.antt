-- What callers cite.
pub mod Faults
pub mod Cuts
pub mod Reports
pub mod Check
pub mod Checking
pub mod VerifiedFilters
pub mod Rewriting
pub mod Saying
pub mod Listing
pub mod Marking
pub mod Notices
pub mod Opening
pub mod Refusing
-- What only the bodies of this crate are proved against.
pub mod Steps
