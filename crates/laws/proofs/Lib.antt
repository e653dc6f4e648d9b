-- Laws of the integers, of tests and of lists, for the proofs of every other crate.
pub mod Tests
pub mod Ints
pub mod Numbers
pub mod Bits
pub mod Firsts
pub mod Each
pub mod Every
pub mod Elements
pub mod Over
pub mod Parts
pub mod Folds
pub mod Calls
pub mod Quarters
pub mod Tables
