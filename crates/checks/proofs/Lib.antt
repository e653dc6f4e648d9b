-- The laws of checks and of searches.
pub mod Laws
pub mod Search
pub mod Known
