pub mod Releasing
pub mod Numbers
pub mod Growing
pub mod Answering
