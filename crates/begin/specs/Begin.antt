-- A board is opened, updated with a record and started: each operation gets the board that the one before left.
use Rattle.std.specs.Prelude.{ℕ, Bool, List, [], ◌∷◌}
use Rattle.checks.specs.Checks.{verdict}
use Rattle.board.specs.declared.Board.{Board}
use Rattle.board.specs.Board.{Outcome}
use Rattle.board.specs.Open.{open_of}
use Rattle.operations.specs.Update.{update_of}
use Rattle.operations.specs.Ramp.{start_of}

abbrev pub updated : ℕ → ℕ → Bool → List ℕ → Outcome
updated width height binned bytes = update_of (open_of width height binned).board bytes

abbrev pub started : ℕ → ℕ → Bool → List ℕ → Outcome
started width height binned bytes = start_of (updated width height binned bytes).board

-- Update and Start of a board that was opened: the first refusal of the two; taken if neither refuses. And the board that they leave
abbrev pub begin_on : Board → List ℕ → Outcome
begin_on b bytes = record {
  answer = verdict ((update_of b bytes).answer ∷ (start_of (update_of b bytes).board).answer ∷ []);
  board = (start_of (update_of b bytes).board).board;
}

-- the first refusal of the three; taken if none refuses. And the board that they leave
abbrev pub begin_of : ℕ → ℕ → Bool → List ℕ → Outcome
begin_of width height binned bytes = record {
  answer = verdict ((open_of width height binned).answer ∷ (updated width height binned bytes).answer ∷ (started width height binned bytes).answer ∷ []);
  board = (started width height binned bytes).board;
}
