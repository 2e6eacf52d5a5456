pub mod Tries
pub mod Sends
pub mod Reads
pub mod Draws
pub mod Circle
pub mod Value
pub mod Fairness
