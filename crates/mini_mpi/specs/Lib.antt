pub mod Asleep
pub mod Collecting
pub mod Errors
pub mod Going
pub mod Posting
pub mod Requests
pub mod Waiting
