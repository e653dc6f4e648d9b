-- The first place of a byte, or the end.
mod First
