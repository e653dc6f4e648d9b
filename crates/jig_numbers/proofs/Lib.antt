-- The laws of `u16_le_all`.
pub mod LittleEndian
