-- Texts that no run writes.
pub mod Others
