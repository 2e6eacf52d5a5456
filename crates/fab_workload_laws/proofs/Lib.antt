pub mod Bandwidth
pub mod Batches
pub mod Done
pub mod Every
pub mod Generated
pub mod Joined
pub mod Ops
pub mod Pingpong
pub mod Rooms
pub mod Settings
pub mod Settled
pub mod Whole
mod Ranks
mod Traffic
mod Rounds
mod CollDone
mod Borne
mod Folds
pub mod CollEvery
mod Received
mod Rows
pub mod Elements
