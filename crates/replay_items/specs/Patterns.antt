-- The 64-bit pattern of a float, as two numbers of 32 bits: its high half and its low half.
use Rattle.std.specs.Prelude.{ℕ, ◌+◌, ◌*◌, ◌/◌, ◌%◌, ◌==◌, cond, List, get_or, to_bits, from_bits}
use Rattle.std.specs.Float.{Float, nan, binary64}
use Rattle.laws.specs.Lists.{each}

abbrev pub pattern_of : ℕ → ℕ → ℕ
pattern_of high low = high * 4294967296 + low

-- the float of the pattern with these halves
abbrev pub float_of_halves : ℕ → ℕ → Float
float_of_halves high low = from_bits binary64 (pattern_of high low)

-- the pattern of the float at a place of a list; past its end that of no number
abbrev pub pattern_at : List Float → ℕ → ℕ
pattern_at floats i = to_bits binary64 (get_or floats i nan)

-- a half of a pattern: the high one at an even place, the low one at an odd place
abbrev pub half : ℕ → ℕ → ℕ
half i pattern = cond (i % 2 == 0) (pattern / 4294967296) (pattern % 4294967296)

-- 8,192 halves, two of each float
abbrev pub halves : List Float → List ℕ
halves floats = each (λ i. half i (pattern_at floats (i / 2))) 8192
