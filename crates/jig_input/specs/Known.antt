-- Inputs with known answers and known parts, in one table that one statement covers. The bytes are hexadecimal.
use Rattle.std.specs.Prelude.{ℕ, Bool, true, false, List, [], ◌∷◌, ◌≡◌, Ok, Err}
use Rattle.laws.specs.Tables.{AllHold}
use Rattle.checks.specs.declared.Reason.TheVariants.{BadSides, BadInput, TooManyPixels}
use Rattle.checks.specs.Checks.{Answer, refusal, verdict}
use Rattle.jig_input.specs.Input.{width_of, height_of, is_binned, record_of, readings_of}
use Rattle.jig_input.specs.Checks.{input_checks}

-- Of an input with so many bytes in all: its first bytes, and what its checks answer. Of a whole input: its parts.
pub data Known : Type 0 where
  checked : (first : List ℕ) (total : ℕ) (answer : Answer) → Known
  parts : (bytes : List ℕ) (width height : ℕ) (binned : Bool) (update readings : List ℕ) → Known

-- a row follows from the definitions
abbrev pub Holds : Known → Type 0
Holds (checked first total answer) = verdict (input_checks first total) ≡ answer
Holds (parts bytes width height binned update readings) =
    (width_of bytes ≡ width)
    × (height_of bytes ≡ height)
    × (is_binned bytes ≡ binned)
    × (record_of bytes ≡ update)
    × (readings_of bytes ≡ readings)

abbrev pub table : List Known
table =
    -- six bytes are enough, five are not
    checked (0x01 ∷ 0x00 ∷ 0x01 ∷ 0x00 ∷ 0x00 ∷ 0x00 ∷ []) 6 (Ok tt)
    ∷ checked (0x01 ∷ 0x00 ∷ 0x01 ∷ 0x00 ∷ 0x00 ∷ []) 5 (Err (refusal BadInput))
    ∷ checked [] 0 (Err (refusal BadInput))
    -- binned is 0 or 1
    ∷ checked (0x02 ∷ 0x00 ∷ 0x02 ∷ 0x00 ∷ 0x01 ∷ 0x00 ∷ []) 6 (Ok tt)
    ∷ checked (0x02 ∷ 0x00 ∷ 0x02 ∷ 0x00 ∷ 0x02 ∷ 0x00 ∷ []) 6 (Err (refusal BadInput))
    -- a record of 2 bytes ends with the input, or runs past its end
    ∷ checked (0x01 ∷ 0x00 ∷ 0x01 ∷ 0x00 ∷ 0x00 ∷ 0x02 ∷ []) 8 (Ok tt)
    ∷ checked (0x01 ∷ 0x00 ∷ 0x01 ∷ 0x00 ∷ 0x00 ∷ 0x02 ∷ []) 6 (Err (refusal BadInput))
    -- 2 bytes, 1 byte and 3 bytes after a record of 2, and of 1
    ∷ checked (0x01 ∷ 0x00 ∷ 0x01 ∷ 0x00 ∷ 0x00 ∷ 0x02 ∷ []) 10 (Ok tt)
    ∷ checked (0x01 ∷ 0x00 ∷ 0x01 ∷ 0x00 ∷ 0x00 ∷ 0x02 ∷ []) 9 (Err (refusal BadInput))
    ∷ checked (0x01 ∷ 0x00 ∷ 0x01 ∷ 0x00 ∷ 0x00 ∷ 0x02 ∷ []) 11 (Err (refusal BadInput))
    ∷ checked (0x01 ∷ 0x00 ∷ 0x01 ∷ 0x00 ∷ 0x00 ∷ 0x01 ∷ []) 9 (Ok tt)
    ∷ checked (0x01 ∷ 0x00 ∷ 0x01 ∷ 0x00 ∷ 0x00 ∷ 0x01 ∷ []) 8 (Err (refusal BadInput))
    ∷ checked (0x01 ∷ 0x00 ∷ 0x01 ∷ 0x00 ∷ 0x00 ∷ 0x01 ∷ []) 10 (Err (refusal BadInput))
    -- each 17 comes before 1: the sides are 0
    ∷ checked (0x00 ∷ 0x00 ∷ 0x00 ∷ 0x00 ∷ 0x00 ∷ []) 5 (Err (refusal BadInput))
    ∷ checked (0x00 ∷ 0x00 ∷ 0x00 ∷ 0x00 ∷ 0x02 ∷ 0x00 ∷ []) 6 (Err (refusal BadInput))
    ∷ checked (0x00 ∷ 0x00 ∷ 0x00 ∷ 0x00 ∷ 0x00 ∷ 0x02 ∷ []) 6 (Err (refusal BadInput))
    ∷ checked (0x00 ∷ 0x00 ∷ 0x00 ∷ 0x00 ∷ 0x00 ∷ 0x00 ∷ []) 7 (Err (refusal BadInput))
    -- a side of 0, a side of 1,025, and an odd side of a binned board
    ∷ checked (0x00 ∷ 0x00 ∷ 0x01 ∷ 0x00 ∷ 0x00 ∷ 0x00 ∷ []) 6 (Err (refusal BadSides))
    ∷ checked (0x01 ∷ 0x00 ∷ 0x00 ∷ 0x00 ∷ 0x00 ∷ 0x00 ∷ []) 6 (Err (refusal BadSides))
    ∷ checked (0x01 ∷ 0x04 ∷ 0x01 ∷ 0x00 ∷ 0x00 ∷ 0x00 ∷ []) 6 (Err (refusal BadSides))
    ∷ checked (0x01 ∷ 0x00 ∷ 0x01 ∷ 0x04 ∷ 0x00 ∷ 0x00 ∷ []) 6 (Err (refusal BadSides))
    ∷ checked (0x03 ∷ 0x00 ∷ 0x02 ∷ 0x00 ∷ 0x01 ∷ 0x00 ∷ []) 6 (Err (refusal BadSides))
    ∷ checked (0x02 ∷ 0x00 ∷ 0x03 ∷ 0x00 ∷ 0x01 ∷ 0x00 ∷ []) 6 (Err (refusal BadSides))
    -- 1,024 × 1 and 32 × 32 pixels; 1,025 × 1,024, where 1 comes before 18; 25 × 41 pixels, one too many
    ∷ checked (0x00 ∷ 0x04 ∷ 0x01 ∷ 0x00 ∷ 0x00 ∷ 0x00 ∷ []) 6 (Ok tt)
    ∷ checked (0x20 ∷ 0x00 ∷ 0x20 ∷ 0x00 ∷ 0x00 ∷ 0x00 ∷ []) 6 (Ok tt)
    ∷ checked (0x01 ∷ 0x04 ∷ 0x00 ∷ 0x04 ∷ 0x00 ∷ 0x00 ∷ []) 6 (Err (refusal BadSides))
    ∷ checked (0x19 ∷ 0x00 ∷ 0x29 ∷ 0x00 ∷ 0x00 ∷ 0x00 ∷ []) 6 (Err (refusal TooManyPixels))
    -- two pixels with a record of four bytes and two readings; and a binned input of 2 × 772 pixels with a record of one byte and one reading
    ∷ parts
    (0x02 ∷ 0x00 ∷ 0x01 ∷ 0x00 ∷ 0x00 ∷ 0x04 ∷ 0x01 ∷ 0x08 ∷ 0x01 ∷ 0x01 ∷ 0x00 ∷ 0x00 ∷ 0xFF ∷ 0x3F ∷ [])
    2 1 false (0x01 ∷ 0x08 ∷ 0x01 ∷ 0x01 ∷ []) (0 ∷ 16383 ∷ [])
    ∷ parts (0x02 ∷ 0x00 ∷ 0x04 ∷ 0x03 ∷ 0x01 ∷ 0x01 ∷ 0x07 ∷ 0x05 ∷ 0x01 ∷ []) 2 772 true (0x07 ∷ []) (261 ∷ [])
    ∷ []

-- every row follows from the definitions
abbrev pub AllKnown : Type 0
AllKnown = AllHold Holds table
