-- The known answers and words, and that what a taken operation leaves has words.
pub mod Known
mod Kept
mod FedWord
