-- For each test of each step a schedule that fails this test alone, and is not lawful, by computing the replay; and texts that are no report.
pub mod Do
pub mod Head
pub mod Tail
pub mod Sent
pub mod Draw
pub mod Read
pub mod Final
pub mod Reports
