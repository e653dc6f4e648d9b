-- What must be true of reading a word, beside the contract. `proofs/Laws.antt` shows it.
use Rattle.std.specs.Prelude.{ℕ, ◌+◌, ◌*◌, ◌^◌, ◌≤◌, ◌<◌, Bool, true, false, ◌≡◌, Result, Ok, Err}
use Rattle.std.specs.Float.Ieee.Exact.{HasValue}
use Rattle.checks.specs.declared.Refusal.{Refusal}
use Rattle.word_codes.specs.Codes.{ordinary_end, saturated_at, negative_code}
use Rattle.settings.specs.Settings.{truncation_in_range, max_samples}
use Rattle.meaning.specs.declared.WordRead.{WordRead}
use Rattle.meaning.specs.declared.WordRead.TheVariants.{Ordinary, Saturated, Negative, Unassigned}
use Rattle.meaning.specs.Meaning.{limit, meaning, read_word, is_flag}

-- whether a word was read as saturated or negative
abbrev pub read_as_flag : Result WordRead Refusal → Bool
read_as_flag (Ok (Ordinary low high)) = false
read_as_flag (Ok (Saturated n)) = true
read_as_flag (Ok Negative) = true
read_as_flag (Ok Unassigned) = false
read_as_flag (Err r) = false

pub record MeaningLaws : Type 0 where
  -- a word below 32,752 reads as ordinary, with the limits w × 2^r and (w + 1) × 2^r, both exact
  pub limits_exact : (r w : ℕ) → truncation_in_range r ≡ true → w < ordinary_end
      → let lo = w * 2 ^ r in
      let hi = (w + 1) * 2 ^ r in
      (read_word r w ≡ Ok (Ordinary (limit lo) (limit hi))) × HasValue (limit lo) false lo 1 × HasValue (limit hi) false hi 1
  -- 32,752 + n, n from 1 to 9, reads as saturated at n
  pub saturated : (r n : ℕ) → truncation_in_range r ≡ true → 1 ≤ n → n ≤ max_samples → read_word r (saturated_at n) ≡ Ok (Saturated n)
  -- 32,767 reads as negative
  pub negative : (r : ℕ) → truncation_in_range r ≡ true → read_word r negative_code ≡ Ok Negative
  -- 32,753 and 32,761 mean saturated at 1 and 9, 32,767 negative; 32,752, 32,762, 32,766, 32,768 and 65,535 are unassigned
  pub known_flags : (meaning 2 32753 ≡ Saturated 1)
      × (meaning 2 32761 ≡ Saturated 9)
      × (meaning 2 32767 ≡ Negative)
      × (meaning 2 32752 ≡ Unassigned)
      × (meaning 2 32762 ≡ Unassigned)
      × (meaning 2 32766 ≡ Unassigned)
      × (meaning 2 32768 ≡ Unassigned)
      × (meaning 2 65535 ≡ Unassigned)
  -- a word is a flag exactly when it reads as saturated or negative, with each r from 1 to 3
  pub flags : (r w : ℕ) → truncation_in_range r ≡ true → read_as_flag (read_word r w) ≡ is_flag w
