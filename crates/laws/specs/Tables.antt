-- A table of known values: a list of rows, and a claim of each.
-- `AllHold`: the claim holds of every row.
pub use Rattle.std.specs.List.{AllByRecursion as AllHold}
