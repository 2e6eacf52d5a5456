-- Receives that are alike.
pub mod Turn
pub mod Watching
pub mod Laws
