-- Distances, keys, and the least key of a row.
pub mod Distances
pub mod Keyed
pub mod RowKeys
