-- What Feed and Read out begin with.
use Rattle.std.specs.Prelude.{ℕ, not, List, [], ◌∷◌, eqb}
use Rattle.checks.specs.declared.Reason.TheVariants.{NoRamp, SumsLength}
use Rattle.checks.specs.Checks.{Answer, when}
use Rattle.board.specs.declared.Board.{Board}
use Rattle.board.specs.Board.{board_area, unsound}

-- 99, then 10: no ramp is running. 11: there isn't one sum for each pixel
abbrev pub ramp_checks : Board → ℕ → List Answer
ramp_checks b sumsLength = unsound b ∷ when (not b.running) NoRamp ∷ when (not (eqb sumsLength (board_area b))) SumsLength ∷ []
