-- What callers cite.
pub mod Views
pub mod Reports
pub mod Pages
