-- What callers cite.
pub mod Cases
pub mod Escaping
pub mod Findings
pub mod Lines
pub mod Members
pub mod Parts
pub mod Values
