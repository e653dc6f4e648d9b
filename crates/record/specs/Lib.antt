-- The bytes of an update record.
pub mod Record
pub mod Laws
