pub mod Library
pub mod Closing
pub mod Exchanging
pub mod Hearing
pub mod Speaking
pub mod Speakers
