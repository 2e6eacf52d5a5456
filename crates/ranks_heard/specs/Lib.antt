pub mod Ranks
