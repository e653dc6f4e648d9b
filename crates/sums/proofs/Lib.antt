-- The laws of the sum of a ramp.
pub mod Feeding
pub mod Ready
pub mod Bounds
pub mod Pixel
pub mod Agrees
pub mod HandedOn
pub mod Laws
pub mod Known
