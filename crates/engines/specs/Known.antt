-- Known entries in floats, by their 64-bit patterns, in one table that one statement covers. `proofs/Known.antt` shows it.
use Rattle.std.specs.Prelude.{ℕ, Bool, true, false, List, [], ◌∷◌, ◌≡◌, ℤ, pos, neg_ℤ}
use Rattle.std.specs.Float.{Float, binary64}
use Rattle.std.specs.Float.Ieee.{of_bits}
use Rattle.laws.specs.Tables.{AllHold}
use Rattle.settings.specs.Settings.{defaults}
use Rattle.entries.specs.Mark.{mark}
use Rattle.engines.specs.Engine.{in_floats, possible_in, step_in}

-- the float of a 64-bit pattern
abbrev float : ℕ → Float
float bits = of_bits binary64 bits

-- Of a pattern: the whole number that its float stands for, and the other way round; whether it is possible after k samples under the defaults; and what a
-- reading of sample n makes of it, under the defaults.
pub data Known : Type 0 where
  stands_for : (bits : ℕ) (z : ℤ) → Known
  possible_after : (k : ℕ) (bits : ℕ) (is_possible : Bool) → Known
  step : (n : ℕ) (before : ℕ) (reading : ℕ) (after : ℕ) → Known

-- a row follows from the definitions
abbrev pub Holds : Known → Type 0
Holds (stands_for bits z) = (in_floats.entry_of z ≡ float bits) × (in_floats.value_of (float bits) ≡ z)
Holds (possible_after k bits is_possible) = possible_in in_floats defaults k (float bits) ≡ is_possible
Holds (step n before reading after) = step_in in_floats defaults n (float before) reading ≡ float after

abbrev pub table : List Known
table =
    stands_for 0x0000_0000_0000_0000 (pos 0)
    ∷ stands_for 0x4060_0000_0000_0000 (pos 128)
    ∷ stands_for 0xc0ae_4000_0000_0000 (neg_ℤ (pos 3872))
    ∷ stands_for 0x41d0_0000_0040_0000 (mark 1)
    ∷ stands_for 0x41d0_0000_0240_0000 (mark 9)
    -- 0; the largest sum after nine samples, and one more; the mark of sample 9, of sample 10, and of no sample
    ∷ possible_after 9 0x0000_0000_0000_0000 true
    ∷ possible_after 9 0x4140_dffc_8000_0000 true
    ∷ possible_after 9 0x4140_dffd_0000_0000 false
    ∷ possible_after 9 0x41d0_0000_0240_0000 true
    ∷ possible_after 9 0x41d0_0000_0280_0000 false
    ∷ possible_after 9 0x41d0_0000_0000_0000 false
    -- the smallest sum after one sample, and one less
    ∷ possible_after 1 0xc10d_fb88_0000_0000 true
    ∷ possible_after 1 0xc10d_fb90_0000_0000 false
    -- no number, of two patterns; the two infinities; -0
    ∷ possible_after 9 0x7ff8_0000_0000_0000 false
    ∷ possible_after 9 0xfff0_0000_0000_0001 false
    ∷ possible_after 9 0x7ff0_0000_0000_0000 false
    ∷ possible_after 9 0xfff0_0000_0000_0000 false
    ∷ possible_after 9 0x8000_0000_0000_0000 false
    -- fractions: 128.5, 0.25, and the smallest of all floats
    ∷ possible_after 9 0x4060_1000_0000_0000 false
    ∷ possible_after 9 0x3fd0_0000_0000_0000 false
    ∷ possible_after 9 0x0000_0000_0000_0001 false
    -- large ones: 2^32 + 128, 2^53, and 10^300 or so
    ∷ possible_after 9 0x41f0_0000_0800_0000 false
    ∷ possible_after 9 0x4340_0000_0000_0000 false
    ∷ possible_after 9 0x7e37_e43c_8800_759c false
    -- sample 1 makes 128 - 4 x 1,000 of anything: of no number, and of -0
    ∷ step 1 0x7ff8_0000_0000_0000 1000 0xc0ae_4000_0000_0000
    ∷ step 1 0x8000_0000_0000_0000 1000 0xc0ae_4000_0000_0000
    -- 128 - 4 x 32 is 0, and no -0
    ∷ step 1 0x0000_0000_0000_0000 32 0x0000_0000_0000_0000
    -- a reading of 0 with a negative weight, and a weight of 0, add nothing to 0
    ∷ step 2 0x0000_0000_0000_0000 0 0x0000_0000_0000_0000
    ∷ step 5 0x0000_0000_0000_0000 1000 0x0000_0000_0000_0000
    -- sample 9 adds 4 x 1,000 to 128; a reading over the threshold leaves its mark, and no later one takes its place
    ∷ step 9 0x4060_0000_0000_0000 1000 0x40b0_2000_0000_0000
    ∷ step 9 0x4060_0000_0000_0000 13088 0x41d0_0000_0240_0000
    ∷ step 9 0x41d0_0000_00c0_0000 13088 0x41d0_0000_00c0_0000
    ∷ []

-- every row follows from the definitions
abbrev pub AllKnown : Type 0
AllKnown = AllHold Holds table
