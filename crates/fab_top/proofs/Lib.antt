pub mod Parts
pub mod Telling
pub mod Workloads
pub mod Answering
pub mod Sticking
pub mod Asking
pub mod rows
