-- Each step lowers the number of what the peers have still to do.
pub mod Sums
pub mod Costs
pub mod Stepping
pub mod Peers
