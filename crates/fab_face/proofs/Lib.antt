pub mod Joining
pub mod Tied
pub mod Writing
pub mod Holding
pub mod Counts
pub mod Letting
pub mod Owed
pub mod Owing
pub mod Arriving
pub mod Repaid
mod Refused
pub mod Going
pub mod Circle
mod Fairness
