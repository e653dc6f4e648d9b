-- A board, what *sound* means, the setters of a board's parts, and what opening, the end of a ramp and a refusal leave.
use Rattle.std.specs.Prelude.{ℕ, ◌*◌, Bool, false, not, ◌&&◌, ◌||◌, leb, eqb}
use Rattle.sides.specs.Sides.{of_sides}
unfoldable pub use Rattle.sides.specs.Sides.{sides_taken}
use Rattle.settings.specs.declared.Settings.{Settings}
use Rattle.settings.specs.Settings.{defaults, in_range}
use Rattle.checks.specs.declared.Reason.TheVariants.{UnsoundBoard}
use Rattle.checks.specs.Checks.{Answer, when, by_answer}
use Rattle.board.specs.declared.Board.{Board}

-- M: the number of pixels
abbrev pub board_area : Board → ℕ
board_area b = b.sides.width * b.sides.height

-- N × M, with the N in force: the readings that a ramp wants in all
abbrev pub wanted : Board → ℕ
wanted b = b.in_force.samples * board_area b

-- n for sides that Open takes, and 0 for any other
abbrev pub of_taken_sides : Board → ℕ → ℕ
of_taken_sides b n = of_sides b.sides.width b.sides.height b.sides.binned n

-- no more readings are fed than the ramp wants
abbrev pub fed_within : Board → Bool
fed_within b = leb b.fed (wanted b)

-- with no ramp running, nothing is fed
abbrev pub idle_unfed : Board → Bool
idle_unfed b = b.running || eqb b.fed 0

-- *sound*: sides that Open would take, both settings within Update's ranges, at most N × M readings fed (N in force), and none fed while no ramp runs
unfoldable pub sound : Board → Bool
sound b =
    sides_taken b.sides.width b.sides.height b.sides.binned
    && in_range b.waiting && in_range b.in_force
    && fed_within b && idle_unfed b

-- the first check of every operation that is handed a board: 99 if it isn't sound
abbrev pub unsound : Board → Answer
unsound b = when (not (sound b)) UnsoundBoard

-- a board that was just opened: the defaults waiting and in force, no ramp
abbrev pub opened : ℕ → ℕ → Bool → Board
opened width height binned = record {
  sides = record { width = width; height = height; binned = binned };
  waiting = defaults;
  in_force = defaults;
  running = false;
  fed = 0;
}

-- a board with other settings, and with another ramp: all else of it is kept
abbrev pub with_settings : Settings → Settings → Board → Board
with_settings waiting in_force b = record { sides = b.sides; waiting = waiting; in_force = in_force; running = b.running; fed = b.fed }

abbrev pub with_ramp : Bool → ℕ → Board → Board
with_ramp running fed b = record { sides = b.sides; waiting = b.waiting; in_force = b.in_force; running = running; fed = fed }

-- the ramp ends
abbrev pub ended : Board → Board
ended b = with_ramp false 0 b

-- what an operation answers, with the board as it leaves it
pub record Outcome : Type 0 where
  pub answer : Answer
  pub board : Board

-- a taken operation leaves a new board, a refused one the board as it was
abbrev pub leaves : Answer → Board → Board → Outcome
leaves answer new old = record { answer = answer; board = by_answer answer new old }
