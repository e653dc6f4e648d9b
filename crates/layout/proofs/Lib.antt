-- Entries as locals hold them, and the squares of a board.
pub mod Held
pub mod Squares
