-- How far a row has no flag.
pub mod SupportClear
