-- The lines of a frame.
pub mod Lines
