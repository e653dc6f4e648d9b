-- Proofs of the record: its fields, its weight bytes, and the laws.
pub mod Fields
pub mod Magnitudes
pub mod Laws
