-- The places of a frame of words, the nearest flag to one, and the flags in a box.
pub mod Places
pub mod Checks
pub mod Finding
pub mod Counting
pub mod Laws
