pub mod Covered
pub mod Endings
pub mod Found
pub mod Hinted
pub mod Overlapping
pub mod True
pub mod Tried
pub mod Watched
