-- A sound board part by part, what operations keep, what the checks of a running ramp have shown, and the laws of Open.
pub mod Known
pub mod Soundness
pub mod Kept
pub mod Checked
pub mod Laws
