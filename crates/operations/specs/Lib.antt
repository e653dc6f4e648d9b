-- The operations on a board: the checks and the outcome of each, and their laws.
pub mod Update
pub mod Ramp
pub mod Feed
pub mod Feeds
pub mod ReadOut
pub mod Covered
pub mod Laws
pub mod Known
