pub mod Lanes
pub mod Narrow
pub mod Answering
