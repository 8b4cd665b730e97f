pub mod AsBox
pub mod Answering
pub mod Buffers
pub mod Rows
pub mod Tellings
