-- The fields of a record.
pub mod Fields
pub mod Laws
pub mod Known
