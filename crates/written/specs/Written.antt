-- Check 14 of Feed: an entry written by an earlier Feed of this ramp, for which this one brings a reading, isn't possible for its k.
use Rattle.std.specs.Prelude.{ℕ, ◌+◌, ◌*◌, ◌/◌, ◌%◌, Bool, cond, not, ◌&&◌, List, leb, ltb, get_or}

-- how many samples of pixel p are among the first f readings
abbrev pub samples_written : ℕ → ℕ → ℕ → ℕ
samples_written m f p = f / m + cond (ltb p (f % m)) 1 0

-- Pixel p has had k samples, k from 1, so that its next reading is number k × m + p. This Feed brings the numbers from f to f + count − 1.
-- `absent` stands for an entry past the end, where none is asked for.
abbrev pub impossible_at : {E : Type 0} → E → (ℕ → E → Bool) → ℕ → ℕ → ℕ → List E → ℕ → Bool
impossible_at absent test m f count sums p =
    let k = samples_written m f p in
    leb 1 k && ltb (k * m + p) (f + count) && not (test k (get_or sums p absent))
