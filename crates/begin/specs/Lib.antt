-- Open, Update and Start, one after the other.
pub mod Begin
