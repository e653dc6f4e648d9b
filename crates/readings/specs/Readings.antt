-- The range of a reading.
use Rattle.std.specs.Prelude.{ℕ, Bool, leb}

-- the largest reading
abbrev pub max_reading : ℕ
max_reading = 16383

-- a reading is 0 to 16,383
abbrev pub reading_in_range : ℕ → Bool
reading_in_range x = leb x max_reading
