-- what callers cite
pub mod Calls
pub mod Ending
pub mod Greeting
pub mod Links
pub mod Reading
pub mod Said
pub mod Waiting
pub mod Words
pub mod Writing
