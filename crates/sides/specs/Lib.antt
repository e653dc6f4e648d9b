-- The sides of a board.
pub mod Sides
pub mod Laws
