-- Readings are in range exactly where their bits together are.
pub mod Bits
