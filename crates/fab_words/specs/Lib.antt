pub mod Bytes
pub mod Misreads
pub mod Rows
pub mod Words
pub mod Written
