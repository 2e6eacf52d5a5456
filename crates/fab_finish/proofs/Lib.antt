pub mod Joining
pub mod Resting
pub mod Starting
pub mod Carried
pub mod Ending
pub mod Clearing
pub mod Freight
pub mod Wanting
