pub mod Metrics
pub mod Rows
pub mod Runs
pub mod TaggedValues
