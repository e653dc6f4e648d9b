-- Checks and answers, as every operation's definition cites them.
pub mod Search
pub mod Checks
pub mod Plain
pub mod Known
