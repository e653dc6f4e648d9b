-- Ramps with known words, which refusals may have a place, and which calls anyone can make, in one table that one statement covers.
use Rattle.std.specs.Prelude.{ℕ, Bool, true, false, List, [], ◌∷◌, ◌≡◌, ℤ, pos, neg_ℤ, map, replicate, set, Ok, Err}
use Rattle.std.specs.Float.{Float, fin, binary64}
use Rattle.std.specs.Float.Ieee.{of_bits}
use Rattle.laws.specs.Tables.{AllHold}
use Rattle.settings.specs.declared.Settings.{Settings}
use Rattle.settings.specs.Settings.{defaults, with_weights, with_threshold, with_truncation, with_samples}
use Rattle.settings.specs.Covered.{is_covered}
use Rattle.checks.specs.declared.Reason.{Reason}
use Rattle.checks.specs.declared.Reason.TheVariants.{BadSides, TooManyReadings, ReadingRange, EntryNotPossible, ReadingsWanted, UnsoundBoard}
use Rattle.entries.specs.Mark.{mark}
use Rattle.engines.specs.Engine.{floats, in_floats}
use Rattle.sums.specs.Feed.{sums_in, sums_after}
use Rattle.sums.specs.Exact.{reading_of, exact_sum}
use Rattle.meaning.specs.declared.WordRead.{WordRead}
use Rattle.meaning.specs.declared.WordRead.TheVariants.{Ordinary, Saturated, Negative}
use Rattle.encoding.specs.Word.{word_of}
use Rattle.meaning.specs.Meaning.{limit, read_word}
use Rattle.history.specs.Calls.{Sums, whole_sums, Call, update, feed, read_out}
use Rattle.history.specs.Demands.{Placed, passable}

-- Of one pixel's ramp: the settings and the readings; the exact sum, the entry that they leave, in floats too, its word and what that reads as; and whether the settings are
-- covered. Of a square: its four entries, its word at the default r, and what that reads as. Of a reason: whether its refusal may have place 1. Of a
-- call: whether anyone can make it.
pub data Known : Type 0 where
  ramp : (s : Settings) (readings : List ℕ) (sum entry : ℤ) (word : ℕ) (reads : WordRead) (covered : Bool) → Known
  square : (entries : List ℤ) (word : ℕ) (reads : WordRead) → Known
  with_place : Reason → Known
  without_place : Reason → Known
  call : (c : Call) (can_be_made : Bool) → Known

-- a row follows from the definitions, whatever the pixel's entry held before
abbrev pub Holds : Known → Type 0
Holds (ramp s readings sum entry word reads covered) =
    (exact_sum s s.samples (reading_of 1 readings 0) ≡ sum)
    × ((old : ℤ) → sums_after s 0 readings (old ∷ []) ≡ entry ∷ [])
    × ((old : Float) → sums_in in_floats s 0 readings (old ∷ []) ≡ in_floats.entry_of entry ∷ [])
    × (word_of s.truncation (entry ∷ []) ≡ word)
    × (read_word s.truncation word ≡ Ok reads)
    × (is_covered s ≡ covered)
Holds (square entries word reads) = (word_of defaults.truncation entries ≡ word) × (read_word defaults.truncation word ≡ Ok reads)
Holds (with_place reason) = Placed (Err (record { reason = reason; place = 1 }))
Holds (without_place reason) = Placed (Err (record { reason = reason; place = 1 })) → ⊥
Holds (call c can_be_made) = passable c ≡ can_be_made

-- the defaults, save for N = 1 and weight 1
abbrev single : ℤ → Settings
single w = with_samples 1 (with_weights (set defaults.weights 0 w) defaults)

-- the defaults, save for the weights, r, and a threshold that marks nothing
abbrev all15 : ℕ → Settings
all15 r = with_truncation r (with_threshold 16383 (with_weights (replicate 9 (pos 15)) defaults))

-- sums in floats, by their 64-bit patterns
abbrev float_sums : List ℕ → Sums
float_sums patterns = record { kind = floats; entries = map (of_bits binary64) patterns }

abbrev pub table : List Known
table =
    ramp defaults (replicate 9 1000) (pos 128) (pos 128) 32 (Ordinary (limit 128) (limit 132)) true
    ∷ ramp defaults (100 ∷ 200 ∷ 300 ∷ 400 ∷ 500 ∷ 600 ∷ 700 ∷ 800 ∷ 900 ∷ []) (pos 6128) (pos 6128) 1532 (Ordinary (limit 6128) (limit 6132)) true
    ∷ ramp defaults (900 ∷ 800 ∷ 700 ∷ 600 ∷ 500 ∷ 400 ∷ 300 ∷ 200 ∷ 100 ∷ []) (neg_ℤ (pos 5872)) (neg_ℤ (pos 5872)) 32767 Negative true
    ∷ ramp (with_threshold 13000 defaults) (13000 ∷ 13000 ∷ 13001 ∷ 13000 ∷ 13000 ∷ 13000 ∷ 13001 ∷ 13000 ∷ 13000 ∷ []) (pos 128) (mark 3) 32755 (Saturated 3) true
    ∷ ramp (with_threshold 13000 defaults) (replicate 9 13000) (pos 128) (pos 128) 32 (Ordinary (limit 128) (limit 132)) true
    ∷ ramp (with_threshold 13000 defaults) (13000 ∷ 13000 ∷ 13000 ∷ 13000 ∷ 13001 ∷ 13000 ∷ 13000 ∷ 13000 ∷ 13000 ∷ []) (pos 128) (mark 5) 32757 (Saturated 5) true
    ∷ ramp (single (neg_ℤ (pos 1))) (128 ∷ []) (pos 0) (pos 0) 0 (Ordinary (limit 0) (limit 4)) true
    ∷ ramp (single (neg_ℤ (pos 1))) (129 ∷ []) (neg_ℤ (pos 1)) (neg_ℤ (pos 1)) 32767 Negative true
    ∷ ramp (all15 1) (replicate 9 16383) (pos 2211833) (pos 2211833) 24572 (Ordinary (limit 49144) (limit 49146)) false
    ∷ ramp (all15 2) (replicate 9 16383) (pos 2211833) (pos 2211833) 28670 (Ordinary (limit 114680) (limit 114684)) false
    ∷ ramp (all15 3) (replicate 9 16383) (pos 2211833) (pos 2211833) 14335 (Ordinary (limit 114680) (limit 114688)) false
    ∷ ramp (single (pos 15)) (8726 ∷ []) (pos 131018) (pos 131018) 32754 (Saturated 2) false
    ∷ square (pos 7 ∷ pos 7 ∷ pos 7 ∷ pos 3 ∷ []) 1 (Ordinary (limit 4) (limit 8))
    ∷ square (neg_ℤ (pos 1) ∷ pos 0 ∷ pos 0 ∷ pos 0 ∷ []) 32767 Negative
    ∷ square (neg_ℤ (pos 1) ∷ pos 0 ∷ pos 0 ∷ pos 2 ∷ []) 0 (Ordinary (limit 0) (limit 4))
    ∷ square (mark 5 ∷ mark 2 ∷ neg_ℤ (pos 10) ∷ neg_ℤ (pos 10) ∷ []) 32754 (Saturated 2)
    ∷ without_place BadSides
    ∷ without_place TooManyReadings
    ∷ with_place ReadingRange
    ∷ with_place EntryNotPossible
    ∷ without_place ReadingsWanted
    ∷ without_place UnsoundBoard
    ∷ call (update (255 ∷ [])) true
    ∷ call (update (256 ∷ [])) false
    ∷ call (feed (65535 ∷ []) (whole_sums (pos 2147483647 ∷ []))) true
    ∷ call (feed (65536 ∷ []) (whole_sums [])) false
    ∷ call (feed [] (whole_sums (pos 2147483648 ∷ []))) false
    ∷ call (read_out (whole_sums (neg_ℤ (pos 2147483648) ∷ [])) (65535 ∷ [])) true
    ∷ call (read_out (whole_sums (neg_ℤ (pos 2147483649) ∷ [])) []) false
    ∷ call (read_out (whole_sums []) (65536 ∷ [])) false
    -- no number, the two infinities, -0, 128.5 and 2^32 + 128
    ∷ call (feed (65535 ∷ []) (float_sums (0x7ff8_0000_0000_0000 ∷ 0x7ff0_0000_0000_0000 ∷ 0xfff0_0000_0000_0000 ∷ []))) true
    ∷ call (feed (65536 ∷ []) (float_sums [])) false
    ∷ call (read_out (float_sums (0x8000_0000_0000_0000 ∷ 0x4060_1000_0000_0000 ∷ 0x41f0_0000_0800_0000 ∷ [])) (65535 ∷ [])) true
    ∷ call (read_out (float_sums []) (65536 ∷ [])) false
    -- the largest float and the smallest; 2^53 + 1 is none
    ∷ call (feed [] (float_sums (0x7fef_ffff_ffff_ffff ∷ 0x0000_0000_0000_0001 ∷ []))) true
    ∷ call (feed [] (record { kind = floats; entries = fin false 9007199254740993 (pos 0) ∷ [] })) false
    ∷ []

-- every row follows from the definitions
abbrev pub AllKnown : Type 0
AllKnown = AllHold Holds table
