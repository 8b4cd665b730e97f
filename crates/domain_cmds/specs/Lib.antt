-- What callers cite.
pub mod Sizes
pub mod Verbs
pub mod CommandView
pub mod Commands
pub mod Readings
pub mod Faults
pub mod Rests
pub mod Texts
pub mod Failures
pub mod FailureTexts
pub mod Comparing
pub mod ComparisonTexts
pub mod State
pub mod Short
pub mod Origins
pub mod Said
pub mod Script
pub mod Left
pub mod Paging
pub mod Marks
pub mod Running
-- What only the bodies of this crate are proved against.
pub mod ByColumn
