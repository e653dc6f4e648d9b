-- The sum of a ramp: what readings do to the sums, a pixel's exact sum, and the laws of both.
pub mod Feed
pub mod Exact
pub mod Laws
pub mod Known
