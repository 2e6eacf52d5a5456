pub mod Queues
pub mod Counts
