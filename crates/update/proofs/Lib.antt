-- Proofs of an update: the laws that crates above cite, and those that they rest on.
pub mod Order
pub mod Overlong
pub mod Keeps
pub mod Changes
pub mod Reaches
pub mod Laws
pub mod Known
