-- Known words and frames. `proofs/Known.antt` shows them.
use Rattle.std.specs.Prelude.{true, false, [], ◌∷◌, map, ◌≡◌, pos}
use Rattle.std.specs.Float.{binary64}
use Rattle.std.specs.Float.Ieee.{of_bits}
use Rattle.engines.specs.Engine.{in_floats}
use Rattle.encoding.specs.Word.{word_of}
use Rattle.encoding.specs.Frame.{frame_in, frame_of}

pub record AllKnown : Type 0 where
  -- with r = 1 the sum 65,535 gives 32,767, and 65,536 gives 0: the remainder is that by 32,768. The largest sum, 2,211,833, gives 24,572
  pub known_remainders : (word_of 1 (pos 65535 ∷ []) ≡ 32767) × (word_of 1 (pos 65536 ∷ []) ≡ 0) × (word_of 1 (pos 2211833 ∷ []) ≡ 24572)
  -- the words in their order: of each pixel, and of the two squares of two rows of four
  pub known_frames : (frame_of 2 false 2 (pos 128 ∷ pos 256 ∷ []) ≡ 32 ∷ 64 ∷ [])
      × (frame_of 4 true 2 (pos 16 ∷ pos 16 ∷ pos 32 ∷ pos 32 ∷ pos 16 ∷ pos 16 ∷ pos 32 ∷ pos 32 ∷ []) ≡ 4 ∷ 8 ∷ [])
  -- in floats, by their 64-bit patterns: 128 and -4; 16 three times and the mark of sample 2
  pub known_float_frames : (frame_in in_floats 2 false 2 (map (of_bits binary64) (0x4060_0000_0000_0000 ∷ 0xc010_0000_0000_0000 ∷ [])) ≡ 32 ∷ 32767 ∷ [])
      × (frame_in in_floats 2 true 2 (map (of_bits binary64) (0x4030_0000_0000_0000 ∷ 0x4030_0000_0000_0000 ∷ 0x41d0_0000_0080_0000 ∷ 0x4030_0000_0000_0000 ∷ [])) ≡ 32754 ∷ [])
