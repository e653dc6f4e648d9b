-- The board, what sound means, what operations keep of it, Open, and the checks of a running ramp.
pub mod Board
pub mod RampChecks
pub mod Kept
pub mod Open
pub mod Laws
pub mod Known
