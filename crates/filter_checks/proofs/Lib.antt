pub mod Comparisons
pub mod FirstLine
pub mod MoreTests
pub mod Meant
pub mod TestFiles
