pub mod Steps
pub mod Tiles
pub mod Pairs
pub mod Finding
pub mod Reaching
pub mod Calls
mod Rows
pub mod Sending
