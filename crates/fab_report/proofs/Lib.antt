pub mod Blanks
pub mod Pieces
pub mod Cutting
pub mod Numerals
pub mod Telling
pub mod Written
