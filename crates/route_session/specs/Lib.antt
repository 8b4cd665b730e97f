-- what callers cite
pub mod Calls
pub mod Codes
pub mod Jobs
pub mod Links
pub mod Plans
pub mod Reads
pub mod Telling
pub mod LinkTrace
pub mod Turns
pub mod Writes
