-- The known codes of a word.
pub mod Known
