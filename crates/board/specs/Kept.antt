-- What an operation keeps of a board.
use Rattle.std.specs.Prelude.{◌≡◌, Err}
use Rattle.checks.specs.declared.Reason.TheVariants.{UnsoundBoard}
use Rattle.checks.specs.Checks.{refusal}
use Rattle.board.specs.declared.Board.{Board}
use Rattle.board.specs.Board.{Outcome}

-- what is fixed at opening
abbrev pub SameSides : Board → Board → Type 0
SameSides old new = new.sides ≡ old.sides

-- both settings
abbrev pub SameSettings : Board → Board → Type 0
SameSettings old new = (new.waiting ≡ old.waiting) × (new.in_force ≡ old.in_force)

-- 99, and the board as it was
abbrev pub refused99 : Board → Outcome
refused99 b = record { answer = Err (refusal UnsoundBoard); board = b }
