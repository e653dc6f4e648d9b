-- What the sides that Open takes are, part by part, and the ends of their range.
pub mod Parts
pub mod Laws
