-- What Covered says of a sound board.
use mathlib.Core.Bool.{true}
use mathlib.Core.Logic.{◌↔◌}
use mathlib.Core.Path.{◌≡◌}
use Rattle.settings.specs.Covered.{is_covered}
use Rattle.std.specs.Prelude.{Ok}
use Rattle.checks.specs.Checks.{verdict}
use Rattle.board.specs.declared.Board.{Board}
use Rattle.board.specs.Board.{sound}
use Rattle.operations.specs.Covered.{coverage_of}

pub says : (b : Board) → sound b ≡ true → coverage_of b ≡ Ok (is_covered b.in_force)
unfolding coverage_of verdict
says b s = rw s

pub covered_is : (b : Board) → sound b ≡ true → (coverage_of b ≡ Ok true) ↔ (is_covered b.in_force ≡ true)
covered_is b s = rw (says b s) ((λ e. cc), λ e. cc)
