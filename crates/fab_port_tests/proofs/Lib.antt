pub mod PlainPorts
pub mod RingPorts
pub mod QueuePorts
