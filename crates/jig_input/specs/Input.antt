-- The bytes of a job: width and height, two bytes each, low byte first; binned, 0 or 1; the length of the record; the record; then the readings, two bytes each,
-- low byte first. A byte past the end reads as 0.
use Rattle.std.specs.Prelude.{ℕ, ◌+◌, ◌*◌, Bool, List, eqb, get_or, take, drop}
use Rattle.ranges.specs.Ranges.{max_samples}
use Rattle.record.specs.Record.{u16_le_at}
use Rattle.jig_numbers.specs.LittleEndian.{u16_le_all}

abbrev pub width_of : List ℕ → ℕ
width_of bytes = u16_le_at bytes 0

abbrev pub height_of : List ℕ → ℕ
height_of bytes = u16_le_at bytes 2

abbrev pub binned_byte : List ℕ → ℕ
binned_byte bytes = get_or bytes 4 0

abbrev pub is_binned : List ℕ → Bool
is_binned bytes = eqb (binned_byte bytes) 1

abbrev pub record_length : List ℕ → ℕ
record_length bytes = get_or bytes 5 0

abbrev pub record_of : List ℕ → List ℕ
record_of bytes = take (record_length bytes) (drop 6 bytes)

-- where the readings start
abbrev pub readings_at : List ℕ → ℕ
readings_at bytes = 6 + record_length bytes

abbrev pub readings_of : List ℕ → List ℕ
readings_of bytes = u16_le_all (drop (readings_at bytes) bytes)

-- the most pixels of a job
abbrev pub max_pixels : ℕ
max_pixels = 1024

-- one reading more than the largest job wants
abbrev pub max_readings : ℕ
max_readings = max_samples * max_pixels + 1
