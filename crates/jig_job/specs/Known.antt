-- Jobs with known results, in one table that one statement covers. The bytes are hexadecimal.
use Rattle.std.specs.Prelude.{ℕ, List, [], ◌∷◌, ◌≡◌, length, Ok, Err}
use Rattle.laws.specs.Tables.{AllHold}
use Rattle.checks.specs.declared.Reason.TheVariants.{ShortRecord, ReadingRange, BadInput}
use Rattle.checks.specs.declared.Refusal.{Refusal}
use Rattle.checks.specs.Checks.{refusal}
use Rattle.jig_job.specs.Job.{job_answer, job_words, columns_of, truncation_of}

-- of a taken job: its input, the words, how many of them stand in a row, and the r in force; of a refused one: its input and the refusal
pub data Known : Type 0 where
  taken : (bytes words : List ℕ) (columns r : ℕ) → Known
  refused : (bytes : List ℕ) (why : Refusal) → Known

-- a row follows from the definitions
abbrev pub Holds : Known → Type 0
Holds (taken bytes words columns r) =
    (job_answer bytes (length bytes) ≡ Ok tt)
    × (job_words bytes (length bytes) ≡ words)
    × (columns_of bytes ≡ columns)
    × (truncation_of bytes ≡ r)
Holds (refused bytes why) = job_answer bytes (length bytes) ≡ Err why

-- two pixels in a row, threshold 16,383, one sample of weight 1, the readings 0 and 16,383
unfoldable pub two_pixels : List ℕ
two_pixels = 0x02 ∷ 0x00 ∷ 0x01 ∷ 0x00 ∷ 0x00 ∷ 0x06 ∷ 0x01 ∷ 0x0A ∷ 0x01 ∷ 0xFF ∷ 0x3F ∷ 0x01 ∷ 0x00 ∷ 0x00 ∷ 0xFF ∷ 0x3F ∷ []

-- 4 × 4 pixels, binned: one sample of weight −1, threshold 1,000, r = 3; the readings, row by row:
--     0, 0, 0, 0;     0, 0, 0, 1,001;     128, 128, 100, 100;     128, 129, 100, 101
unfoldable pub four_squares : List ℕ
four_squares =
    0x04 ∷ 0x00 ∷ 0x04 ∷ 0x00 ∷ 0x01 ∷ 0x07 ∷ 0x01 ∷ 0x0E ∷ 0x11 ∷ 0xE8 ∷ 0x03 ∷ 0x03 ∷ 0x01
    ∷ 0x00 ∷ 0x00 ∷ 0x00 ∷ 0x00 ∷ 0x00 ∷ 0x00 ∷ 0x00 ∷ 0x00
    ∷ 0x00 ∷ 0x00 ∷ 0x00 ∷ 0x00 ∷ 0x00 ∷ 0x00 ∷ 0xE9 ∷ 0x03
    ∷ 0x80 ∷ 0x00 ∷ 0x80 ∷ 0x00 ∷ 0x64 ∷ 0x00 ∷ 0x64 ∷ 0x00
    ∷ 0x80 ∷ 0x00 ∷ 0x81 ∷ 0x00 ∷ 0x64 ∷ 0x00 ∷ 0x65 ∷ 0x00
    ∷ []

-- no record: 2
unfoldable pub record_missing : List ℕ
record_missing = 0x01 ∷ 0x00 ∷ 0x01 ∷ 0x00 ∷ 0x00 ∷ 0x00 ∷ []

-- and an odd byte after it: 17 comes before the operations
unfoldable pub odd_byte : List ℕ
odd_byte = 0x01 ∷ 0x00 ∷ 0x01 ∷ 0x00 ∷ 0x00 ∷ 0x00 ∷ 0x00 ∷ []

-- two pixels, one sample of weight 1, the readings 0 and 16,384: 13, with place 1
unfoldable pub reading_too_large : List ℕ
reading_too_large = 0x02 ∷ 0x00 ∷ 0x01 ∷ 0x00 ∷ 0x00 ∷ 0x04 ∷ 0x01 ∷ 0x08 ∷ 0x01 ∷ 0x01 ∷ 0x00 ∷ 0x00 ∷ 0x00 ∷ 0x40 ∷ []

abbrev pub table : List Known
table =
    taken two_pixels (32 ∷ 4127 ∷ []) 2 2
    ∷ taken four_squares (16 ∷ 32753 ∷ 32767 ∷ 3 ∷ []) 2 3
    ∷ refused record_missing (refusal ShortRecord)
    ∷ refused odd_byte (refusal BadInput)
    ∷ refused reading_too_large (record { reason = ReadingRange; place = 1 })
    ∷ []

-- every row follows from the definitions
abbrev pub AllKnown : Type 0
AllKnown = AllHold Holds table
