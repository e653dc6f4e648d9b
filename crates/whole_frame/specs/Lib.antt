-- The whole chain of a frame.
pub mod Chain
