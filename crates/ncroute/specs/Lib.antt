-- What callers cite.
pub mod Checked
pub mod Comparing
pub mod Configured
pub mod DomainLines
pub mod DomainLoading
pub mod DomainRouter
pub mod DomainWords
pub mod Domains
pub mod Filters
pub mod Guiding
pub mod Joining
pub mod Loading
pub mod Networking
pub mod Paging
pub mod Planning
pub mod Reloading
pub mod Replaying
pub mod Requests
pub mod Responding
pub mod Routing
pub mod Scripts
pub mod Testing
pub mod Trying
pub mod WrongLines
pub mod WrongWords
-- What only the bodies of this crate are proved against.
pub mod Watching
