pub mod Listing
mod Heads
