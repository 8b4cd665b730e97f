pub mod Answering
pub mod Naming
pub mod Sourced
pub mod Entering
pub mod Growing
pub mod Going
pub mod Alike
pub mod Unended
pub mod Ending
mod KeptEntries
mod Pairs
mod PlainLines
mod Rows
mod Told
mod Verbs
