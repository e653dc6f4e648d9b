-- Known answers, as C gets them. `proofs/Known.antt` shows them.
use Rattle.std.specs.Prelude.{ℕ, Bool, true, false, ◌≡◌, Option, Some, None, Result, Ok, Err}
use Rattle.checks.specs.declared.Reason.TheVariants.{TruncationRange, EntryNotPossible, WordsLength, OutsideFrame, UnsoundBoard}
use Rattle.checks.specs.declared.Refusal.{Refusal}
use Rattle.checks.specs.Checks.{refusal}
use Rattle.meaning.specs.declared.WordRead.{WordRead}
use Rattle.meaning.specs.declared.WordRead.TheVariants.{Ordinary, Saturated, Negative, Unassigned}
use Rattle.meaning.specs.Meaning.{limit}
use Rattle.places.specs.declared.Place.{Place}
use Rattle.places.specs.Places.{place_at}
use Rattle.ramp_board.specs.Answers.{result_number, result_place}
use Rattle.ramp_board.specs.BoardAnswers.{covered_after}
use Rattle.ramp_board.specs.WordAnswers.{kind_after, low_after, high_after, sample_after}
use Rattle.ramp_board.specs.FlagAnswers.{found_after, row_after, column_after, flags_after}

-- a flag, "no flag", and a refusal
abbrev at_flag : Result (Option Place) Refusal
at_flag = Ok (Some (place_at 3 4))

abbrev no_flag : Result (Option Place) Refusal
no_flag = Ok None

abbrev outside : Result (Option Place) Refusal
outside = Err (refusal OutsideFrame)

-- a count, and a refusal
abbrev five : Result ℕ Refusal
five = Ok 5

abbrev other_length : Result ℕ Refusal
other_length = Err (refusal WordsLength)

-- a refusal with a place
abbrev third_entry : Result ℕ Refusal
third_entry = Err (record { reason = EntryNotPossible; place = 3 })

-- what Covered says, and a refusal
abbrev says_covered : Result Bool Refusal
says_covered = Ok true

abbrev says_uncovered : Result Bool Refusal
says_uncovered = Ok false

abbrev unsound_board : Result Bool Refusal
unsound_board = Err (refusal UnsoundBoard)

-- each kind of word, and a refusal
abbrev ordinary : Result WordRead Refusal
ordinary = Ok (Ordinary (limit 8) (limit 16))

abbrev saturated : Result WordRead Refusal
saturated = Ok (Saturated 5)

abbrev negative : Result WordRead Refusal
negative = Ok Negative

abbrev unassigned : Result WordRead Refusal
unassigned = Ok Unassigned

abbrev other_truncation : Result WordRead Refusal
other_truncation = Err (refusal TruncationRange)

-- the limits and the sample are what they were, here 7
abbrev limits_kept : Result WordRead Refusal → Type 0
limits_kept answer = (low_after answer (limit 7) ≡ limit 7) × (high_after answer (limit 7) ≡ limit 7)

abbrev sample_kept : Result WordRead Refusal → Type 0
sample_kept answer = sample_after answer 7 ≡ 7

pub record AllKnown : Type 0 where
  -- 0 for an answer, the number for a refusal
  pub known_numbers : (result_number at_flag ≡ 0)
      × (result_number no_flag ≡ 0)
      × (result_number outside ≡ 19)
      × (result_number five ≡ 0)
      × (result_number other_length ≡ 16)
      × (result_number third_entry ≡ 14)
      × (result_number unsound_board ≡ 99)
  -- 0 for an answer, the place for a refusal
  pub known_refusal_places : (result_place five ≡ 0) × (result_place other_length ≡ 0) × (result_place third_entry ≡ 3)
  -- 1 for covered, 0 for uncovered, and as it was, here 7, after a refusal
  pub known_covered : (covered_after says_covered 7 ≡ 1) × (covered_after says_uncovered 7 ≡ 0) × (covered_after unsound_board 7 ≡ 7)
  -- 0 to 3 for the kinds of a word, and as it was, here 7, after a refusal
  pub known_kinds : (kind_after ordinary 7 ≡ 0)
      × (kind_after saturated 7 ≡ 1)
      × (kind_after negative 7 ≡ 2)
      × (kind_after unassigned 7 ≡ 3)
      × (kind_after other_truncation 7 ≡ 7)
  -- the limits are told of an ordinary word alone, and the sample of a saturated one
  pub known_limits : (low_after ordinary (limit 7) ≡ limit 8) × (high_after ordinary (limit 7) ≡ limit 16)
  pub known_sample : sample_after saturated 7 ≡ 5
  pub known_untold : sample_kept ordinary
      × limits_kept saturated
      × (limits_kept negative × sample_kept negative)
      × (limits_kept unassigned × sample_kept unassigned)
      × (limits_kept other_truncation × sample_kept other_truncation)
  -- `found` is 1 for a flag and 0 for none, and as it was, here 7, after a refusal
  pub known_found : (found_after at_flag 7 ≡ 1) × (found_after no_flag 7 ≡ 0) × (found_after outside 7 ≡ 7)
  -- the row, the column and the count; or what they were, here 7
  pub known_places : (row_after at_flag 7 ≡ 3)
      × (column_after at_flag 7 ≡ 4)
      × (row_after no_flag 7 ≡ 7)
      × (column_after no_flag 7 ≡ 7)
      × (row_after outside 7 ≡ 7)
      × (column_after outside 7 ≡ 7)
  pub known_counts : (flags_after five 7 ≡ 5) × (flags_after other_length 7 ≡ 7)
