-- The laws of patterns.
pub mod Laws
