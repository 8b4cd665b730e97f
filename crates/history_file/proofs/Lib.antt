pub mod Numbers
pub mod Plain
pub mod LinePlain
pub mod Again
pub mod Lines
pub mod Whole
pub mod Turns
pub mod Judged
pub mod Rows
pub mod Chained
pub mod States
pub mod Told
mod Example
