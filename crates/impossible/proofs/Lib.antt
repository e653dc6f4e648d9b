-- The laws of the quicker test.
pub mod Near
