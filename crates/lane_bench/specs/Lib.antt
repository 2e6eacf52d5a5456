pub mod Between
pub mod Ports
