-- The laws of places, of the nearest flag and of a count.
pub mod Flagged
pub mod Checked
pub mod Nearness
pub mod Counts
pub mod Laws
