-- What callers cite.
pub mod Limits
pub mod Faults
pub mod Verbs
pub mod WordLists
pub mod Networks
pub mod CommandView
pub mod Commands
pub mod Readings
pub mod PlainLines
pub mod Replies
pub mod Stages
pub mod Looks
pub mod Script
pub mod Entries
pub mod Running
pub mod Alike
-- What contracts see of the filters that have names.
pub mod State
