-- What callers cite: the limits, the instructions, their table and how they are displayed, code, routes and values, the machine and
-- its outcomes, and the codes of faults.
pub mod CodeView
pub mod Limits
pub mod Machine
pub mod Names
pub mod Outcomes
pub mod RouteView
pub mod Table
pub mod Values
-- What only bodies are proved against: a configuration of its parts, and values as numbers.
pub mod Steps
pub mod Tagged
