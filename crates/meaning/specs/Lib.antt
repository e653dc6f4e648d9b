-- What a word means.
pub mod Meaning
pub mod Laws
pub mod Known
