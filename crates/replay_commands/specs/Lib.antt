-- The ranges of a command's numbers.
pub mod Ranges
