pub mod Few
mod Granted
mod Joined
mod Rows
mod Sums
mod Windows
pub mod Appended
mod Joining
mod Others
mod Progress
mod Ruling
mod Said
mod Sizes
pub mod Within
mod Worked
