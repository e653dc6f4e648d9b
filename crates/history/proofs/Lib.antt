-- The proofs of the statements over lists of calls, of what is true of both engines, and of the table of known ramps.
pub mod Claims
pub mod Ledgers
pub mod Places
pub mod Invariant
pub mod HandedOn
pub mod Coverage
pub mod Frames
pub mod Lists
pub mod Unchanged
pub mod Ramps
pub mod Reaches
pub mod Demands
pub mod Engines
pub mod Known
