-- The flags of a box, row by row.
pub mod BoxRows
