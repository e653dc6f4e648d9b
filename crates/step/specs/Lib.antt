-- What one reading does to one entry.
pub mod Step
pub mod Laws
pub mod Known
