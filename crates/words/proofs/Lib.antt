-- Entries, raised entries, and the word that the code makes of them.
pub mod Entries
pub mod Raising
pub mod Words
pub mod Square
