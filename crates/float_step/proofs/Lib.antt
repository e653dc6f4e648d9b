-- The step of a float.
pub mod Steps
