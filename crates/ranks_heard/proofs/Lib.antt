pub mod Ranking
pub mod Whole
