-- How a stream that failed is said, and the exit status.
pub mod Ends
