pub mod Routes
pub mod Lengths
pub mod Offering
pub mod Beginning
pub mod Driving
pub mod Offered
pub mod Folded
