pub mod Members
pub mod Ends
pub mod Served
pub mod Orders
pub mod Looks
