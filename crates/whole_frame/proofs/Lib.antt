-- What a frame's checks come to.
pub mod Whole
pub mod Enough
