pub mod Following
mod PathBeside
pub mod Unreported
