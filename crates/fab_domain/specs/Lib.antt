pub mod Domain
pub mod Seen
