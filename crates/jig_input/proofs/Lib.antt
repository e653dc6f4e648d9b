-- What the checks of an input come to.
pub mod Checking
pub mod Known
