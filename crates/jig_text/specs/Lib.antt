-- Text of numbers, refusals and words.
pub mod Text
pub mod SupportRequires
pub mod Laws
pub mod Known
