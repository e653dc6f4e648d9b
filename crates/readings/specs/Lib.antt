-- The range of a reading.
pub mod Readings
