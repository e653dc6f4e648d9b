-- The refusals of the fields.
pub mod And
pub mod Laws
pub mod Known
