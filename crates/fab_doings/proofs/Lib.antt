pub mod Programs
pub mod Showing
pub mod Reaching
pub mod Keeping
pub mod Reading
pub mod Opening
pub mod Obeying
pub mod alike
mod rows
pub mod Fixed
pub mod Walking
pub mod Hearing
pub mod Saying
pub mod Recording
pub mod Applying
