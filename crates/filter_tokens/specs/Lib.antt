-- What callers cite.
pub mod Codes
pub mod Lexemes
pub mod Meaning
pub mod Shapes
pub mod Symbols
pub mod Tokenization
-- What only the bodies of this crate are proved against.
pub mod ByteClasses
pub mod Reading
