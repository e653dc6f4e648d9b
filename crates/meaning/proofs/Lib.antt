-- The laws of reading a word.
pub mod Laws
pub mod Known
