-- The ends of each range.
pub mod Laws
