-- what callers cite
pub mod Closing
pub mod Entering
pub mod RouterView
pub mod Rule
pub mod Steps
pub mod Views
