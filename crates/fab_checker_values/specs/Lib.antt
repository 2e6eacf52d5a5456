pub mod NewElements
pub mod Seen
