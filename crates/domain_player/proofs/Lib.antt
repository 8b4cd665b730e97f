pub mod Domains
pub mod Entering
pub mod Linking
pub mod Opened
pub mod Played
pub mod Queues
pub mod Ways
