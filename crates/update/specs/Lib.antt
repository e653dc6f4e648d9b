-- Update: its checks, its outcome, and its laws.
pub mod Update
pub mod Laws
pub mod Known
