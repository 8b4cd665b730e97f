-- What callers cite.
pub mod Allowing
pub mod Checking
pub mod Linting
pub mod Sets
pub mod SurveyedFilters
pub mod Truths
pub mod WarningLines
-- What only the bodies of this crate are proved against.
pub mod Arithmetic
pub mod Commands
pub mod Conditions
pub mod Disorders
pub mod Finding
pub mod Hints
pub mod HostBits
pub mod Known
pub mod Lowering
pub mod Metrics
pub mod Overlaps
pub mod Rules
pub mod Sites
pub mod Variables
pub mod Watching
