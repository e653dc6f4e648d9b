-- What the word of entries reads as. `proofs/Meanings.antt` shows it.
use Rattle.std.specs.Prelude.{ℕ, ◌*◌, ◌≤◌, ◌<◌, true, false, List, ◌≡◌, Result, Ok, Float, ℤ, pos, length, ◌≤ℤ◌, ◌<ℤ◌, Some, None}
use Rattle.std.specs.Float.Ieee.Exact.{HasValue}
use Rattle.laws.specs.Lists.{total}
use Rattle.checks.specs.declared.Refusal.{Refusal}
use Rattle.settings.specs.Settings.{truncation_in_range, max_samples}
use Rattle.settings.specs.Covered.{ceiling}
use Rattle.meaning.specs.declared.WordRead.{WordRead}
use Rattle.meaning.specs.declared.WordRead.TheVariants.{Ordinary, Saturated, Negative}
use Rattle.encoding.specs.Word.{smallest_mark, is_negative, word_of}
use Rattle.meaning.specs.Meaning.{read_word}

-- a word that reads as ordinary: its two limits are 64-bit floats, exactly the whole numbers lo and hi, and pixels × lo ≤ sum < pixels × hi
pub record Between (pixels : ℕ) (sum : ℤ) (reads : Result WordRead Refusal) : Type 0 where
  pub lower : Float
  pub upper : Float
  pub lo : ℕ
  pub hi : ℕ
  pub ordinary : reads ≡ Ok (Ordinary lower upper)
  pub lower_is : HasValue lower false lo 1
  pub upper_is : HasValue upper false hi 1
  pub from : pos (pixels * lo) ≤ℤ sum
  pub below : sum <ℤ pos (pixels * hi)

pub record WordLaws : Type 0 where
  -- the word of one entry, or of a square's four. No mark, no negative sum, and a total below 32,752 × 2^r for each pixel: ordinary, with the total between the limits
  pub ordinary : (r : ℕ) (entries : List ℤ) → truncation_in_range r ≡ true → 0 < length entries
      → smallest_mark entries ≡ None → is_negative entries ≡ false → total entries <ℤ pos (length entries * ceiling r)
      → Between (length entries) (total entries) (read_word r (word_of r entries))
  -- the smallest mark n from 1 to 9: saturated at n
  pub saturated : (r : ℕ) (entries : List ℤ) (n : ℕ) → truncation_in_range r ≡ true
      → smallest_mark entries ≡ Some n → 1 ≤ n → n ≤ max_samples
      → read_word r (word_of r entries) ≡ Ok (Saturated n)
  -- no mark, and a negative sum: negative
  pub negative : (r : ℕ) (entries : List ℤ) → truncation_in_range r ≡ true
      → smallest_mark entries ≡ None → is_negative entries ≡ true
      → read_word r (word_of r entries) ≡ Ok Negative
