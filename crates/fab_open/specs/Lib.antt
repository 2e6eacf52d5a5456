pub mod Machine
pub mod Opening
