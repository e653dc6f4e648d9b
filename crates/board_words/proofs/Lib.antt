-- The known words, and the words of a board and what they hold.
pub mod Known
mod Fitting
pub mod Laws
