-- Open.
use Rattle.std.specs.Prelude.{ℕ, Bool, false, not, List, [], ◌∷◌}
use Rattle.checks.specs.declared.Reason.TheVariants.{BadSides}
use Rattle.checks.specs.Checks.{Answer, when, verdict}
use Rattle.board.specs.declared.Board.{Board}
use Rattle.board.specs.Board.{Outcome, sides_taken, opened, leaves}

-- 1: a side of 0, a side above 1,024, or an odd side of a binned board
abbrev pub open_checks : ℕ → ℕ → Bool → List Answer
open_checks width height binned = when (not (sides_taken width height binned)) BadSides ∷ []

-- what stands for the board after a refusal: its sides are 0, so it isn't sound
abbrev pub no_board : Board
no_board = opened 0 0 false

unfoldable pub open_of : ℕ → ℕ → Bool → Outcome
open_of width height binned = leaves (verdict (open_checks width height binned)) (opened width height binned) no_board
