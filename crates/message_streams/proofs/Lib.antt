pub mod Pairs
pub mod Exact
mod Rows
