pub mod BestWord
pub mod Excerpts
pub mod Harmless
pub mod Indents
pub mod LineWords
mod PlaceRows
