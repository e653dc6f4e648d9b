-- One turn of Feed's loop.
pub mod Turn
