pub mod CutLemmas
pub mod WordLemmas
pub mod NumberLemmas
pub mod RowLemmas
mod Worked
