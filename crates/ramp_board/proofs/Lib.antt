-- The known answers.
pub mod Known
