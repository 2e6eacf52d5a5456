-- What a receive got it completes with, where claimed messages go, and what becomes of each message that arrived.
pub mod Acts
pub mod Claiming
pub mod News
pub mod Settling
pub mod Flowing
pub mod Pasting
pub mod Placing
pub mod Opens
pub mod Filling
pub mod Releasing
pub mod Telling
pub mod Holding
