-- What callers cite.
pub mod Alike
pub mod Blocks
pub mod Cases
pub mod Cutting
pub mod Functions
pub mod Including
pub mod Indices
pub mod Items
pub mod Judged
pub mod Laying
pub mod Reasons
pub mod Rules
pub mod Scopes
pub mod Sets
pub mod Spelling
pub mod Steps
pub mod Stuck
pub mod Texts
pub mod Unassigned
-- What only the bodies of this crate are proved against.
pub mod Conversions
pub mod Names
