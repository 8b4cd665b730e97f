-- What callers cite.
pub mod Cuts
pub mod Edits
pub mod OfDomain
pub mod PlanView
pub mod Reach
pub mod Routes
pub mod Still
pub mod Topology
-- What only the bodies of this crate are proved against.
pub mod Left
pub mod Offers
pub mod Solving
