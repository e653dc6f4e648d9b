-- Inputs with a known report, in one table that one statement covers.
use Rattle.std.specs.Prelude.{ℕ, List, [], ◌∷◌, ◌≡◌, length}
use Rattle.laws.specs.Lists.{joined}
use Rattle.laws.specs.Tables.{AllHold}
use Rattle.jig_job.specs.Known.{two_pixels, four_squares, record_missing, odd_byte, reading_too_large}
use Rattle.jig_report.specs.Text.{text_of}

-- an input, and the lines of its report in ASCII, each with the end of the line
pub data Known : Type 0 where
  report : (bytes : List ℕ) (lines : List (List ℕ)) → Known

-- a row follows from the definitions
abbrev pub Holds : Known → Type 0
Holds (report bytes lines) = text_of bytes (length bytes) ≡ joined lines

abbrev pub table : List Known
table =
    report two_pixels (
    -- `row col word meaning`
    (114 ∷ 111 ∷ 119 ∷ 32 ∷ 99 ∷ 111 ∷ 108 ∷ 32 ∷ 119 ∷ 111 ∷ 114 ∷ 100 ∷ 32 ∷ 109 ∷ 101 ∷ 97 ∷ 110 ∷ 105 ∷ 110 ∷ 103 ∷ 10 ∷ [])
    -- `0 0 32 128..132`
    ∷ (48 ∷ 32 ∷ 48 ∷ 32 ∷ 51 ∷ 50 ∷ 32 ∷ 49 ∷ 50 ∷ 56 ∷ 46 ∷ 46 ∷ 49 ∷ 51 ∷ 50 ∷ 10 ∷ [])
    -- `0 1 4127 16508..16512`
    ∷ (48 ∷ 32 ∷ 49 ∷ 32 ∷ 52 ∷ 49 ∷ 50 ∷ 55 ∷ 32 ∷ 49 ∷ 54 ∷ 53 ∷ 48 ∷ 56 ∷ 46 ∷ 46 ∷ 49 ∷ 54 ∷ 53 ∷ 49 ∷ 50 ∷ 10 ∷ [])
    ∷ []
    )
    ∷ report four_squares (
    -- `row col word meaning`
    (114 ∷ 111 ∷ 119 ∷ 32 ∷ 99 ∷ 111 ∷ 108 ∷ 32 ∷ 119 ∷ 111 ∷ 114 ∷ 100 ∷ 32 ∷ 109 ∷ 101 ∷ 97 ∷ 110 ∷ 105 ∷ 110 ∷ 103 ∷ 10 ∷ [])
    -- `0 0 16 128..136`
    ∷ (48 ∷ 32 ∷ 48 ∷ 32 ∷ 49 ∷ 54 ∷ 32 ∷ 49 ∷ 50 ∷ 56 ∷ 46 ∷ 46 ∷ 49 ∷ 51 ∷ 54 ∷ 10 ∷ [])
    -- `0 1 32753 sat 1`
    ∷ (48 ∷ 32 ∷ 49 ∷ 32 ∷ 51 ∷ 50 ∷ 55 ∷ 53 ∷ 51 ∷ 32 ∷ 115 ∷ 97 ∷ 116 ∷ 32 ∷ 49 ∷ 10 ∷ [])
    -- `1 0 32767 neg`
    ∷ (49 ∷ 32 ∷ 48 ∷ 32 ∷ 51 ∷ 50 ∷ 55 ∷ 54 ∷ 55 ∷ 32 ∷ 110 ∷ 101 ∷ 103 ∷ 10 ∷ [])
    -- `1 1 3 24..32`
    ∷ (49 ∷ 32 ∷ 49 ∷ 32 ∷ 51 ∷ 32 ∷ 50 ∷ 52 ∷ 46 ∷ 46 ∷ 51 ∷ 50 ∷ 10 ∷ [])
    ∷ []
    )
    -- `refused 2`
    ∷ report record_missing ((114 ∷ 101 ∷ 102 ∷ 117 ∷ 115 ∷ 101 ∷ 100 ∷ 32 ∷ 50 ∷ 10 ∷ []) ∷ [])
    -- `refused 17`
    ∷ report odd_byte ((114 ∷ 101 ∷ 102 ∷ 117 ∷ 115 ∷ 101 ∷ 100 ∷ 32 ∷ 49 ∷ 55 ∷ 10 ∷ []) ∷ [])
    -- `refused 13`
    ∷ report reading_too_large ((114 ∷ 101 ∷ 102 ∷ 117 ∷ 115 ∷ 101 ∷ 100 ∷ 32 ∷ 49 ∷ 51 ∷ 10 ∷ []) ∷ [])
    ∷ []

-- every row follows from the definitions
abbrev pub AllKnown : Type 0
AllKnown = AllHold Holds table
