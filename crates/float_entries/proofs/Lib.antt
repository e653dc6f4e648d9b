-- Lanes and chunks of floats.
pub mod Lanes
pub mod Chunks
pub mod Windows
