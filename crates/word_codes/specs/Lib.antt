-- The codes of a word.
pub mod Codes
pub mod Known
