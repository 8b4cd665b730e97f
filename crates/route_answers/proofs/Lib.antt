pub mod Answered
pub mod Clipped
pub mod EvalEndings
pub mod Evaluated
pub mod Evaluations
pub mod FilterEndings
pub mod Meant
pub mod PlainLines
pub mod PrintedLines
pub mod Reading
pub mod RouteLines
mod Rows
