pub mod LineLemmas
pub mod PartLemmas
pub mod RuleLemmas
mod Worked
