pub mod Bound
pub mod LineKinds
pub mod Parts
pub mod Refused
