-- The two engines: whole numbers, and floats.
pub mod Engine
pub mod SupportRange
pub mod SupportPasses
pub mod Laws
pub mod Known
