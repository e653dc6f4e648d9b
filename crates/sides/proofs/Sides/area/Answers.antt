-- `sides::Sides::area` meets its contract.
use mathlib.Core.Path.{sym, ◌∙◌}
use native.Mathlib.Omega.{arith}
use Rattle.sides.proofs.Parts.{sides_parts}
use Rattle.sides.proofs.Sides.area.Goals as goal

pub overflow_mul-result : goal.overflow_mul-result
overflow_mul-result c = omega (arith, (sides_parts _ _ _ (sym c.are_taken.ensures ∙ c.if-are_taken.true)).few)
