-- what callers cite
pub mod Gathering
pub mod Stated
