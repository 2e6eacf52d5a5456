pub mod Pasts
pub mod Law
