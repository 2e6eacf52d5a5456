pub mod Merged
pub mod Lists
pub mod Holding
pub mod Joining
pub mod Threads
pub mod Reaching
pub mod Composing
pub mod Opening
mod rows
