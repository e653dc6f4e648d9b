-- A job of the jig: what comes of its input, and how much of that matters.
pub mod Job
pub mod Kept
pub mod Laws
pub mod Known
