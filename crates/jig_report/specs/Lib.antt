-- The text of a job.
pub mod Text
pub mod Laws
pub mod Known
