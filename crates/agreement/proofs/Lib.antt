-- Frames, and calls on lent memory, as lists of calls.
pub mod Calls
pub mod Lent
pub mod Laws
