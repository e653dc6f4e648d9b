-- What the count asks for.
pub mod SupportRequires
