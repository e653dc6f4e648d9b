-- What the search asks for, and what it keeps.
pub mod SupportRequires
pub mod SupportKeys
