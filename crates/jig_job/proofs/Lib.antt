-- The parts of an input, what comes of its checks, and the laws of jobs.
pub mod Parts
pub mod Jobs
pub mod Laws
pub mod Known
