pub mod Joined
pub mod Rests
pub mod Freight
pub mod Wanting
