pub mod ItemLemmas
pub mod HoldsLemmas
pub mod GrammarLemmas
pub mod ReaderLemmas
pub mod KeptLemmas
pub mod SizeLemmas
pub mod Payloads
pub mod BindingLemmas
mod Worked
