-- What a job's result says of its text, and the laws of it.
pub mod Jobs
pub mod Laws
pub mod Known
