-- A board in lent memory.
pub mod Words
pub mod Laws
pub mod Known
