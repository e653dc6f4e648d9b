-- Proofs of the settings: the laws that crates above cite, and those that the functions share.
pub mod Weights
pub mod Parts
pub mod Laws
pub mod Known
