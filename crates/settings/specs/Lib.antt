-- The settings, their ranges, and the covered question.
pub mod Settings
pub mod Covered
pub mod Laws
pub mod Known
