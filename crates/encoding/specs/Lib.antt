-- The word of a pixel or a square, the frame of the sums, what a word reads as, and known squares.
pub mod Word
pub mod Frame
pub mod Meanings
pub mod Squares
pub mod Known
