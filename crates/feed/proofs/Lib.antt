-- What the passes of Feed require holds of a taken Feed.
pub mod Feedable
