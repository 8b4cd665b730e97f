-- what callers cite
pub mod FileView
pub mod Files
pub mod Including
pub mod Nodes
pub mod PlanTexts
