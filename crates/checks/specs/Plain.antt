-- An answer as plain numbers, for C: 0 for taken.
use Rattle.std.specs.Prelude.{ℕ, Ok, Err}
use Rattle.checks.specs.declared.Reason.{Reason}
use Rattle.checks.specs.declared.Reason.TheVariants.{BadSides, ShortRecord, UnknownField, RecordLength, WeightRange, ThresholdRange, TruncationRange, SamplesRange, RampRunning, NoRamp, SumsLength, TooManyReadings, ReadingRange, EntryNotPossible, ReadingsWanted, WordsLength, BadInput, TooManyPixels, OutsideFrame, UnsoundBoard}
use Rattle.checks.specs.Checks.{Answer}

-- the number that document 01 names for each reason
abbrev pub number : Reason → ℕ
number BadSides = 1
number ShortRecord = 2
number UnknownField = 3
number RecordLength = 4
number WeightRange = 5
number ThresholdRange = 6
number TruncationRange = 7
number SamplesRange = 8
number RampRunning = 9
number NoRamp = 10
number SumsLength = 11
number TooManyReadings = 12
number ReadingRange = 13
number EntryNotPossible = 14
number ReadingsWanted = 15
number WordsLength = 16
number BadInput = 17
number TooManyPixels = 18
number OutsideFrame = 19
number UnsoundBoard = 99

abbrev pub refusal_number : Answer → ℕ
refusal_number (Ok tt) = 0
refusal_number (Err r) = number r.reason

abbrev pub refusal_place : Answer → ℕ
refusal_place (Ok tt) = 0
refusal_place (Err r) = r.place
