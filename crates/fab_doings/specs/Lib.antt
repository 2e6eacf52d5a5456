pub mod Doings
pub mod Alike
pub mod Law
pub mod Heard
pub mod Recording
pub mod Talking
pub mod Driven
