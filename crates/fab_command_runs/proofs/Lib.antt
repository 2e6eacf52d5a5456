pub mod Plans
mod Telling
pub mod Rounds
