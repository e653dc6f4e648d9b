-- The answers, as plain numbers.
pub mod Answers
pub mod BoardAnswers
pub mod WordAnswers
pub mod FlagAnswers
pub mod Known
