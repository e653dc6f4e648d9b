-- Known text, in one table that one statement covers.
use Rattle.std.specs.Prelude.{ℕ, List, [], ◌∷◌, ◌≡◌}
use Rattle.laws.specs.Tables.{AllHold}
use Rattle.checks.specs.declared.Reason.{Reason}
use Rattle.checks.specs.declared.Reason.TheVariants.{BadSides, BadInput}
use Rattle.checks.specs.Checks as Checks
use Rattle.meaning.specs.Meaning.{read_word}
use Rattle.jig_text.specs.Text.{decimal, refusal_text, meaning_text}

-- a number, why a refusal came, or a word that is read with an r; and its text in ASCII
pub data Known : Type 0 where
  number : (n : ℕ) (text : List ℕ) → Known
  refusal : (reason : Reason) (text : List ℕ) → Known
  word : (r w : ℕ) (text : List ℕ) → Known

-- a row follows from the definitions
abbrev pub Holds : Known → Type 0
Holds (number n text) = decimal n ≡ text
Holds (refusal reason text) = refusal_text (Checks.refusal reason) ≡ text
Holds (word r w text) = meaning_text (read_word r w) ≡ text

abbrev pub table : List Known
table =
    -- `0`, `9`, `10`; `262016`, the largest limit; and the largest number of 64 bits, `18446744073709551615`
    number 0 (48 ∷ [])
    ∷ number 9 (57 ∷ [])
    ∷ number 10 (49 ∷ 48 ∷ [])
    ∷ number 262016 (50 ∷ 54 ∷ 50 ∷ 48 ∷ 49 ∷ 54 ∷ [])
    ∷ number 18446744073709551615 (49 ∷ 56 ∷ 52 ∷ 52 ∷ 54 ∷ 55 ∷ 52 ∷ 52 ∷ 48 ∷ 55 ∷ 51 ∷ 55 ∷ 48 ∷ 57 ∷ 53 ∷ 53 ∷ 49 ∷ 54 ∷ 49 ∷ 53 ∷ [])
    -- `refused 1`, `refused 17`
    ∷ refusal BadSides (114 ∷ 101 ∷ 102 ∷ 117 ∷ 115 ∷ 101 ∷ 100 ∷ 32 ∷ 49 ∷ [])
    ∷ refusal BadInput (114 ∷ 101 ∷ 102 ∷ 117 ∷ 115 ∷ 101 ∷ 100 ∷ 32 ∷ 49 ∷ 55 ∷ [])
    -- `128..132`, `64..66`, `262008..262016`
    ∷ word 2 32 (49 ∷ 50 ∷ 56 ∷ 46 ∷ 46 ∷ 49 ∷ 51 ∷ 50 ∷ [])
    ∷ word 1 32 (54 ∷ 52 ∷ 46 ∷ 46 ∷ 54 ∷ 54 ∷ [])
    ∷ word 3 32751 (50 ∷ 54 ∷ 50 ∷ 48 ∷ 48 ∷ 56 ∷ 46 ∷ 46 ∷ 50 ∷ 54 ∷ 50 ∷ 48 ∷ 49 ∷ 54 ∷ [])
    -- `none` on both sides of `sat 1` and `sat 9`
    ∷ word 2 32752 (110 ∷ 111 ∷ 110 ∷ 101 ∷ [])
    ∷ word 2 32753 (115 ∷ 97 ∷ 116 ∷ 32 ∷ 49 ∷ [])
    ∷ word 2 32761 (115 ∷ 97 ∷ 116 ∷ 32 ∷ 57 ∷ [])
    ∷ word 2 32762 (110 ∷ 111 ∷ 110 ∷ 101 ∷ [])
    -- `none` on both sides of `neg`, and at the largest word
    ∷ word 2 32766 (110 ∷ 111 ∷ 110 ∷ 101 ∷ [])
    ∷ word 2 32767 (110 ∷ 101 ∷ 103 ∷ [])
    ∷ word 2 32768 (110 ∷ 111 ∷ 110 ∷ 101 ∷ [])
    ∷ word 2 65535 (110 ∷ 111 ∷ 110 ∷ 101 ∷ [])
    -- `refused 7`
    ∷ word 0 32 (114 ∷ 101 ∷ 102 ∷ 117 ∷ 115 ∷ 101 ∷ 100 ∷ 32 ∷ 55 ∷ [])
    ∷ word 4 32 (114 ∷ 101 ∷ 102 ∷ 117 ∷ 115 ∷ 101 ∷ 100 ∷ 32 ∷ 55 ∷ [])
    ∷ []

-- every row follows from the definitions
abbrev pub AllKnown : Type 0
AllKnown = AllHold Holds table
