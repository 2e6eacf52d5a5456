pub mod Places
pub mod Indices
