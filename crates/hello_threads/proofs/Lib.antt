pub mod Streaming
pub mod Whole
