pub mod Owing
pub mod Paying
pub mod Between
pub mod Lists
