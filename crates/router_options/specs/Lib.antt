-- what callers cite
pub mod Forms
pub mod PlanView
pub mod Plans
