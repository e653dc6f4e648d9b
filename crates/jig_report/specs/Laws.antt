-- What must be true of the text of a job, beside the contract. `proofs/Laws.antt` shows it.
use Rattle.std.specs.Prelude.{ℕ, List, [], ◌∷◌, ◌++◌, ◌≡◌, length, take}
use Rattle.jig_job.specs.Kept.{capacity}
use Rattle.jig_report.specs.Text.{header, text_of}

-- the input 02 00 01 00 00 06 01 0A 01 FF 3F 01 00 00 FF 3F (hexadecimal): two pixels, threshold 16,383, one sample of weight 1, the readings 0 and 16,383
unfoldable pub example : List ℕ
example = 0x02 ∷ 0x00 ∷ 0x01 ∷ 0x00 ∷ 0x00 ∷ 0x06 ∷ 0x01 ∷ 0x0A ∷ 0x01 ∷ 0xFF ∷ 0x3F ∷ 0x01 ∷ 0x00 ∷ 0x00 ∷ 0xFF ∷ 0x3F ∷ []

-- `0 0 32 128..132`, and the end of the line
abbrev pub first_line : List ℕ
first_line = 48 ∷ 32 ∷ 48 ∷ 32 ∷ 51 ∷ 50 ∷ 32 ∷ 49 ∷ 50 ∷ 56 ∷ 46 ∷ 46 ∷ 49 ∷ 51 ∷ 50 ∷ 10 ∷ []

-- `0 1 4127 16508..16512`, and the end of the line
abbrev pub second_line : List ℕ
second_line = 48 ∷ 32 ∷ 49 ∷ 32 ∷ 52 ∷ 49 ∷ 50 ∷ 55 ∷ 32 ∷ 49 ∷ 54 ∷ 53 ∷ 48 ∷ 56 ∷ 46 ∷ 46 ∷ 49 ∷ 54 ∷ 53 ∷ 49 ∷ 50 ∷ 10 ∷ []

pub record ReportLaws : Type 0 where
  -- the text of the first bytes of an input and its whole length is the text of the input, however long it is
  pub prefix : (bytes : List ℕ) → text_of (take capacity bytes) (length bytes) ≡ text_of bytes (length bytes)
  -- the whole output for the example
  pub known_text : text_of example (length example) ≡ header ++ (first_line ++ second_line)
