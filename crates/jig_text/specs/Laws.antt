-- What must be true of the text of a word, beside the contracts. `proofs/Laws.antt` shows it.
use Rattle.std.specs.Prelude.{ℕ, ◌+◌, ◌*◌, ◌^◌, ◌<◌, true, [], ◌∷◌, ◌++◌, ◌≡◌}
use Rattle.settings.specs.Settings.{truncation_in_range}
use Rattle.word_codes.specs.Codes.{ordinary_end}
use Rattle.meaning.specs.Meaning.{read_word}
use Rattle.jig_text.specs.Text.{decimal, dots, neg, unassigned, meaning_text}

pub record TextLaws : Type 0 where
  -- an ordinary word w: `..` between w × 2^r and (w + 1) × 2^r
  pub ordinary_text : (r w : ℕ) → truncation_in_range r ≡ true → w < ordinary_end
      → meaning_text (read_word r w) ≡ (decimal (w * 2 ^ r) ++ dots) ++ decimal ((w + 1) * 2 ^ r)
  -- 0, 9, 10 and 262,016, which is the largest limit
  pub known_digits : (decimal 0 ≡ 48 ∷ []) × (decimal 9 ≡ 57 ∷ []) × (decimal 10 ≡ 49 ∷ 48 ∷ []) × (decimal 262016 ≡ 50 ∷ 54 ∷ 50 ∷ 48 ∷ 49 ∷ 54 ∷ [])
  -- with r = 2, 32 means `128..132`, 32,753 `sat 1`, 32,761 `sat 9`, 32,767 `neg`; 32,752, 32,762 and 65,535 mean `none`
  pub known_meanings : (meaning_text (read_word 2 32) ≡ 49 ∷ 50 ∷ 56 ∷ 46 ∷ 46 ∷ 49 ∷ 51 ∷ 50 ∷ [])
      × (meaning_text (read_word 2 32753) ≡ 115 ∷ 97 ∷ 116 ∷ 32 ∷ 49 ∷ [])
      × (meaning_text (read_word 2 32761) ≡ 115 ∷ 97 ∷ 116 ∷ 32 ∷ 57 ∷ [])
      × (meaning_text (read_word 2 32767) ≡ neg)
      × (meaning_text (read_word 2 32752) ≡ unassigned)
      × (meaning_text (read_word 2 32762) ≡ unassigned)
      × (meaning_text (read_word 2 65535) ≡ unassigned)
