-- What the passes of Feed require.
pub mod SupportRequires
