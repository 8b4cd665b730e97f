-- What callers cite.
pub mod PartReports
pub mod Comparing
pub mod Filters
pub mod Keywords
pub mod Reading
pub mod Files
pub mod Tap
pub mod Results
pub mod Places
pub mod Faults
pub mod Testing
