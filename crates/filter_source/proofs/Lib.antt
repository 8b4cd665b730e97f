pub mod Bytes
pub mod Indexed
pub mod Refused
pub mod Translations
