-- Decimal digits, and the limits of words.
pub mod Decimals
pub mod Limits
pub mod Laws
pub mod Known
