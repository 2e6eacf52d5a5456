pub mod Spans
pub mod Elements
pub mod LittleEndian
