-- what callers cite
pub mod Lines
pub mod Objects
pub mod Status
