-- The laws of entries.
pub mod Marks
pub mod Wraps
pub mod Wrapped
pub mod Possible
pub mod Range
pub mod Laws
