pub mod Outside
pub mod Refused
pub mod Commands
pub mod Info
pub mod Memory
pub mod Loading
