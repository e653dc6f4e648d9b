-- Numbers of two bytes each, low byte first.
pub mod LittleEndian
