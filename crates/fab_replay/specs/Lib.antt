pub mod Rest
pub mod Seen
pub mod Verdict
pub mod Meaning
