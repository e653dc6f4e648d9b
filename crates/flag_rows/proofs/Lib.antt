-- Flags of a row, by their distance.
pub mod Sideways
