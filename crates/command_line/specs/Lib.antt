-- What callers cite.
pub mod CommandNames
pub mod Filters
pub mod Meaning
pub mod Pages
pub mod Parameters
pub mod Readings
pub mod Reads
pub mod Sources
pub mod Telling
