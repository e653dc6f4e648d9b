-- The laws of the engines.
pub mod Laws
pub mod Known
