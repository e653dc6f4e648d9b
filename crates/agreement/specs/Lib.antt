-- The laws between a whole frame, a board in lent memory and a list of calls.
pub mod Laws
pub mod Lent
