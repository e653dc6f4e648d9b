-- The operations on a board in lent memory.
pub mod Lent
pub mod Known
