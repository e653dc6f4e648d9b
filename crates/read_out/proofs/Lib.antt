-- What the passes of Read out require holds of a taken Read out.
pub mod Readable
