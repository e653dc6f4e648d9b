-- Check 14 of Feed.
pub mod Written
