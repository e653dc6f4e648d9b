-- Checked calls.
pub mod Checked
