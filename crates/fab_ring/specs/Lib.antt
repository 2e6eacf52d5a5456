pub mod Tries
pub mod Alone
pub mod Hands
pub mod Ports
pub mod Looks
pub mod Steps
pub mod Made
pub mod Gather
