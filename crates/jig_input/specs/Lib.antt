-- The bytes of an input, and its checks.
pub mod Input
pub mod Checks
pub mod Known
