pub mod Places
pub mod Indexing
