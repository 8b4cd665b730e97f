pub mod Floats
pub mod Joining
pub mod Listing
pub mod Unbracketing
