pub mod Changing
pub mod Elements
pub mod Performing
