-- Known answers of Open and of the checks of a running ramp, and boards that are known to be sound or not, in one table that one statement covers.
use Rattle.std.specs.Prelude.{ℕ, Bool, true, false, List, [], ◌∷◌, ◌≡◌, Ok, Err, pos, neg_ℤ, replicate}
use Rattle.laws.specs.Tables.{AllHold}
use Rattle.settings.specs.declared.Settings.{Settings}
use Rattle.settings.specs.Settings.{defaults, with_weights, with_threshold, with_truncation, with_samples}
use Rattle.checks.specs.declared.Reason.TheVariants.{BadSides, NoRamp, SumsLength, UnsoundBoard}
use Rattle.checks.specs.Checks.{Answer, refusal, verdict}
use Rattle.board.specs.declared.Board.{Board}
use Rattle.board.specs.Board.{sound, opened, with_settings, with_ramp, ended}
use Rattle.board.specs.Open.{open_of}
use Rattle.board.specs.RampChecks.{ramp_checks}

-- sides that Open is handed, and its answer; a board, and whether it is sound; settings, and whether a board is sound that has them waiting, or in force;
-- a board and a number of sums, and what the checks that Feed and Read out begin with say; a board, and what the end of its ramp leaves
pub data Known : Type 0 where
  opens : (width height : ℕ) (binned : Bool) (answer : Answer) → Known
  board : (b : Board) (is_sound : Bool) → Known
  settings : (s : Settings) (is_sound : Bool) → Known
  sums : (b : Board) (count : ℕ) (answer : Answer) → Known
  ends : (b left : Board) → Known

-- a board of one pixel with the defaults: a ramp wants nine readings
abbrev idle : Board
idle = opened 1 1 false

-- its ramp, with so many readings fed
abbrev fed : ℕ → Board
fed count = with_ramp true count idle

-- a row follows from the definitions
abbrev pub Holds : Known → Type 0
Holds (opens width height binned answer) = (open_of width height binned).answer ≡ answer
Holds (board b is_sound) = sound b ≡ is_sound
Holds (settings s is_sound) = (sound (with_settings s defaults (fed 0)) ≡ is_sound) × (sound (with_settings defaults s (fed 0)) ≡ is_sound)
Holds (sums b count answer) = verdict (ramp_checks b count) ≡ answer
Holds (ends b left) = ended b ≡ left

abbrev pub table : List Known
table =
    opens 1 1024 false (Ok tt)
    ∷ opens 1024 1 false (Ok tt)
    ∷ opens 0 1 false (Err (refusal BadSides))
    ∷ opens 1 0 false (Err (refusal BadSides))
    ∷ opens 1025 1 false (Err (refusal BadSides))
    ∷ opens 1 1025 false (Err (refusal BadSides))
    ∷ opens 2 2 true (Ok tt)
    ∷ opens 1 2 true (Err (refusal BadSides))
    ∷ opens 2 1 true (Err (refusal BadSides))
    -- at most N × M readings are fed, with the N in force, and none while no ramp runs
    ∷ board idle true
    ∷ board (with_ramp false 1 idle) false
    ∷ board (fed 0) true
    ∷ board (fed 9) true
    ∷ board (fed 10) false
    ∷ board (with_settings (with_samples 1 defaults) defaults (fed 9)) true
    ∷ board (with_settings defaults (with_samples 1 defaults) (fed 2)) false
    -- sides that Open would take
    ∷ board (opened 0 1 false) false
    ∷ board (opened 1 1025 false) false
    ∷ board (opened 2 2 true) true
    ∷ board (opened 1 2 true) false
    ∷ board (opened 2 1 true) false
    -- both settings within Update's ranges
    ∷ settings (with_weights (replicate 9 (pos 15)) defaults) true
    ∷ settings (with_weights (replicate 9 (pos 16)) defaults) false
    ∷ settings (with_weights (replicate 9 (neg_ℤ (pos 15))) defaults) true
    ∷ settings (with_weights (replicate 9 (neg_ℤ (pos 16))) defaults) false
    ∷ settings (with_weights (replicate 8 (pos 0)) defaults) false
    ∷ settings (with_threshold 16383 defaults) true
    ∷ settings (with_threshold 16384 defaults) false
    ∷ settings (with_truncation 0 defaults) false
    ∷ settings (with_truncation 1 defaults) true
    ∷ settings (with_truncation 3 defaults) true
    ∷ settings (with_truncation 4 defaults) false
    ∷ settings (with_samples 0 defaults) false
    ∷ settings (with_samples 1 defaults) true
    ∷ settings (with_samples 9 defaults) true
    ∷ settings (with_samples 10 defaults) false
    -- 99 before 10, 10 before 11; one sum for each pixel
    ∷ sums (with_ramp false 1 idle) 0 (Err (refusal UnsoundBoard))
    ∷ sums idle 0 (Err (refusal NoRamp))
    ∷ sums (fed 0) 0 (Err (refusal SumsLength))
    ∷ sums (fed 0) 1 (Ok tt)
    ∷ sums (fed 0) 2 (Err (refusal SumsLength))
    -- the end of a ramp leaves none running and nothing fed
    ∷ ends (fed 9) idle
    ∷ []

-- every row follows from the definitions
abbrev pub AllKnown : Type 0
AllKnown = AllHold Holds table
