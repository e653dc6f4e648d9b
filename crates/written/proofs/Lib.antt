-- The numbers of readings, and check 14 in the two intervals that the code walks.
pub mod Places
pub mod Intervals
