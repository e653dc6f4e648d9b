-- A quicker test of entries.
pub mod SupportNear
