-- An entry of the sums: a sum or a mark, and whether it is possible.
pub mod Mark
pub mod Possible
pub mod SupportRange
pub mod Laws
