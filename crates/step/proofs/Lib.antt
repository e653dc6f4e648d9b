-- The laws of one step.
pub mod Numbers
pub mod Products
pub mod Steps
pub mod Laws
pub mod Known
