pub mod Kinds
pub mod Filled
pub mod Looks
pub mod Turns
pub mod Agreed
pub mod Left
pub mod Laps
