-- what callers cite
pub mod Lines
pub mod Reading
pub mod Ends
pub mod Clocks
pub mod Links
pub mod Posts
pub mod Events
