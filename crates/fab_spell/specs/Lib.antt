pub mod Again
pub mod Elements
pub mod Headings
pub mod Print
pub mod Spelling
