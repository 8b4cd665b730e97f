pub mod Fits
pub mod Keywords
pub mod Text
pub mod Views
