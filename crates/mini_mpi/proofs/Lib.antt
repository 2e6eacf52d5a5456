pub mod Collecting
pub mod Pieces
pub mod Going
pub mod Ending
pub mod Turns
