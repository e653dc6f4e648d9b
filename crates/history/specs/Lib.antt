-- What a reader must believe: the calls and the ledger, the three demands over every list of calls, what is true of both engines, and the table of known ramps.
pub mod Calls
pub mod Readings
pub mod Demands
pub mod Engines
pub mod Known
