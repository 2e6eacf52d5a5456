pub mod Elements
pub mod Granted
pub mod Offer
pub mod Counts
pub mod Replies
pub mod Kinds
