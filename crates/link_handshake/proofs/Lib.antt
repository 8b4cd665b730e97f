pub mod Joined
pub mod Numbers
pub mod Greetings
mod Posts
pub mod Silence
pub mod Each
pub mod Order
pub mod Direction
pub mod Acting
pub mod Reached
pub mod Rows
pub mod Meeting
pub mod Counting
