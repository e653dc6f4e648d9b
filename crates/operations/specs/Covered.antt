-- Covered: its one refusal is 99.
use Rattle.std.specs.Prelude.{Bool, List, [], ◌∷◌, Result}
use Rattle.settings.specs.Covered.{is_covered}
use Rattle.checks.specs.declared.Refusal.{Refusal}
use Rattle.checks.specs.Checks.{Answer, verdict, or_refused}
use Rattle.board.specs.declared.Board.{Board}
use Rattle.board.specs.Board.{unsound}

abbrev pub covered_checks : Board → List Answer
covered_checks b = unsound b ∷ []

-- 99, or whether the settings in force are covered
unfoldable pub coverage_of : Board → Result Bool Refusal
coverage_of b = or_refused (verdict (covered_checks b)) (is_covered b.in_force)
