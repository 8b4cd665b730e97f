-- what callers cite
pub mod Lines
pub mod Reading
pub mod Ends
pub mod Views
