-- Arithmetic of floats on whole numbers.
pub mod Whole
pub mod Bits
pub mod Integers
