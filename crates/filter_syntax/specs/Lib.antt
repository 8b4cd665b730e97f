pub mod Names
pub mod Placed
pub mod Places
pub mod Surroundings
pub mod Syntax
pub mod SyntaxCommands
pub mod SyntaxText
