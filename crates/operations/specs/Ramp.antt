-- Start begins a ramp, Drop ends it with no frame.
use Rattle.std.specs.Prelude.{true, not, List, [], ◌∷◌}
use Rattle.checks.specs.declared.Reason.TheVariants.{RampRunning, NoRamp}
use Rattle.checks.specs.Checks.{Answer, when, verdict}
use Rattle.board.specs.declared.Board.{Board}
use Rattle.board.specs.Board.{Outcome, unsound, with_settings, with_ramp, ended, leaves}

-- ---- Start. 9: a ramp is running

abbrev pub start_checks : Board → List Answer
start_checks b = unsound b ∷ when b.running RampRunning ∷ []

-- a ramp begins: the waiting settings are in force
abbrev pub begun : Board → Board
begun b = with_ramp true 0 (with_settings b.waiting b.waiting b)

unfoldable pub start_of : Board → Outcome
start_of b = leaves (verdict (start_checks b)) (begun b) b

-- ---- Drop. 10: no ramp is running. It is handed no sums, and the waiting settings stay

abbrev pub drop_checks : Board → List Answer
drop_checks b = unsound b ∷ when (not b.running) NoRamp ∷ []

unfoldable pub drop_of : Board → Outcome
drop_of b = leaves (verdict (drop_checks b)) (ended b) b
