pub mod Commands
pub mod Checking
pub mod Runs
