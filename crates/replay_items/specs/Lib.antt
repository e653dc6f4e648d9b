-- The numbers of a line, the items of a list, and the patterns of floats.
pub mod Items
pub mod Numbers
pub mod Patterns
pub mod Laws
