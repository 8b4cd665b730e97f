-- What callers cite.
pub mod Importing
pub mod Including
pub mod Noting
pub mod Places
pub mod Responding
-- What only the bodies of this crate are proved against.
pub mod Inclusions
