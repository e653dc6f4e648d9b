-- The laws of words and frames.
pub mod Firsts
pub mod Grid
pub mod Meanings
pub mod Squares
pub mod Known
