-- The table of known text, row by row, by computation.
use mathlib.Core.List.{[], ◌∷◌}
use mathlib.Core.Path.{◌≡◌, refl}
use native.Mathlib.Omega.{arith}
use Rattle.laws.proofs.Tables.{◌then◌}
use Rattle.meaning.specs.Meaning.{meaning, read_word}
use Rattle.jig_text.specs.Text.{digit_count, decimal, meaning_text}
use Rattle.jig_text.specs.Known.{AllKnown}
use Rattle.jig_text.proofs.Limits.{whole_is}

pub known : AllKnown
unfolding meaning read_word decimal digit_count
known =
    refl then refl then refl then refl then refl
    then refl then refl
    then (rw (whole_is 128 (omega arith), whole_is 132 (omega arith)))
    then (rw (whole_is 64 (omega arith), whole_is 66 (omega arith)))
    then (rw (whole_is 262008 (omega arith), whole_is 262016 (omega arith)))
    then refl then refl then refl then refl
    then refl then refl then refl then refl
    then refl then refl
    then tt

-- with r = 3: `sat 1`, `neg`
pub known_codes : (meaning_text (read_word 3 32753) ≡ 115 ∷ 97 ∷ 116 ∷ 32 ∷ 49 ∷ []) × (meaning_text (read_word 3 32767) ≡ 110 ∷ 101 ∷ 103 ∷ [])
unfolding meaning read_word decimal digit_count
known_codes = (refl, refl)
