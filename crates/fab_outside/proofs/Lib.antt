pub mod Pieces
pub mod Offered
pub mod Loads
pub mod Granted
pub mod Named
