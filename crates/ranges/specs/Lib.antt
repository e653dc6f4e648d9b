-- The range of each setting.
pub mod Ranges
pub mod Laws
