pub mod Named
mod Added
mod Ended
