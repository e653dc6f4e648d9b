-- The lines of a script.
pub mod Lines
