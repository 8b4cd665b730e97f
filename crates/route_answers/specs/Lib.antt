-- What callers cite.
pub mod RouteLine
pub mod Eval
pub mod Evaluation
pub mod Filtering
pub mod WatchedRoutes
pub mod Sizes
-- What only the bodies of this crate are proved against.
pub mod Steps
pub mod Judges
