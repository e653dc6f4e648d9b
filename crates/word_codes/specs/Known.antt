-- The codes, number by number, in code and definitions alike. `proofs/Known.antt` shows them.
use Rattle.std.specs.Prelude.{◌≡◌}
use Rattle.word_codes.specs.declared.TheConstants.{ORDINARY_END, FIRST_SATURATED, LAST_SATURATED, NEGATIVE_CODE}
use Rattle.word_codes.specs.Codes.{ordinary_end, saturated_at, first_saturated, last_saturated, negative_code, word_modulus}

pub record AllKnown : Type 0 where
  -- 32,751 is the last ordinary word
  pub known_ordinary : (ordinary_end ≡ 32752) × (ORDINARY_END ≡ 32752)
  -- 32,753 to 32,761 are saturated at samples 1 to 9
  pub known_saturated : (saturated_at 1 ≡ 32753) × (first_saturated ≡ 32753) × (FIRST_SATURATED ≡ 32753)
      × (saturated_at 9 ≡ 32761)
      × (last_saturated ≡ 32761)
      × (LAST_SATURATED ≡ 32761)
  -- 32,767 is negative, the last of the words that a frame has
  pub known_negative : (negative_code ≡ 32767) × (NEGATIVE_CODE ≡ 32767) × (word_modulus ≡ 32768)
