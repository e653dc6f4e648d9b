-- What the passes over a frame require.
pub mod SupportRequires
