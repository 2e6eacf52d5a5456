pub mod Library
pub mod Leaving
pub mod Hearing
pub mod Speaking
pub mod Speakers
