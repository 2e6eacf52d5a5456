pub mod Lanes
pub mod Ends
pub mod Ports
pub mod Laid
pub mod Made
pub mod Gather
