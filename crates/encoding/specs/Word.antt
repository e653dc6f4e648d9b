-- From the entries of a word's pixels, one or a square's four, to the word.
use Rattle.std.specs.Prelude.{ℕ, ◌*◌, ◌/◌, ◌%◌, ◌^◌, min, Bool, cond, List, [], ◌∷◌, ℤ, pos, nat_abs, length, Option, Some, None}
use Rattle.std.specs.Int.Signed.{lt_z}
use Rattle.laws.specs.Lists.{total}
use Rattle.word_codes.specs.Codes.{saturated_at, negative_code, word_modulus}
use Rattle.entries.specs.Mark.{sample_of}

-- the smaller of two samples, where there are two
abbrev pub smaller : Option ℕ → Option ℕ → Option ℕ
smaller None b = b
smaller (Some a) None = Some a
smaller (Some a) (Some b) = Some (min a b)

-- the smallest sample that an entry is marked with; none where no entry is marked
unfoldable pub smallest_mark : List ℤ → Option ℕ
smallest_mark [] = None
smallest_mark (e ∷ es) = smaller (sample_of e) (smallest_mark es)

-- the sign rule: the sum, or the total of a square's four, is below 0
unfoldable pub is_negative : List ℤ → Bool
is_negative sums = lt_z (total sums) (pos 0)

-- a sum S that isn't negative is divided by d, rounded down; then its remainder by 32,768
abbrev pub cut_by : ℕ → ℤ → ℕ
cut_by d S = nat_abs S / d % word_modulus

-- d is 2^r, and 4 × 2^r for a square
abbrev pub cut_of : ℕ → List ℤ → ℕ
cut_of r sums = cut_by (length sums * 2 ^ r) (total sums)

-- a mark of sample n gives 32,752 + n; otherwise a negative sum gives 32,767; otherwise it is cut
abbrev pub word_by : ℕ → Option ℕ → List ℤ → ℕ
word_by r (Some n) sums = saturated_at n
word_by r None sums = cond (is_negative sums) negative_code (cut_of r sums)

-- the word of one entry, or of a square's four
abbrev pub word_of : ℕ → List ℤ → ℕ
word_of r entries = word_by r (smallest_mark entries) entries
