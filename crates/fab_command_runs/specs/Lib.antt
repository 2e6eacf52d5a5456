pub mod Planned
pub mod Texts
pub mod Commands
pub mod Files
