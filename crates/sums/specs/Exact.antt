-- What a pixel's readings come to. A pixel's readings are given by sample, counted from 1.
use Rattle.std.specs.Prelude.{ℕ, zero, suc, ◌+◌, ◌*◌, List, ℤ, pos, ◌+ℤ◌, ◌*ℤ◌, get_or, Option, Some, None}
use Rattle.laws.specs.Numbers.{sum_to, first_of}
use Rattle.settings.specs.declared.Settings.{Settings}
use Rattle.settings.specs.Settings.{weight_at}
use Rattle.settings.specs.Covered.{pedestal}
use Rattle.entries.specs.Mark.{mark}
use Rattle.step.specs.Step.{over_it}

-- the reading of pixel p at sample n is number (n − 1) × m + p, pixels and numbers counted from 0
abbrev pub reading_of : ℕ → List ℕ → ℕ → ℕ → ℕ
reading_of m readings p zero = 0
reading_of m readings p (suc i) = get_or readings (i * m + p) 0

-- the exact sum of k samples: 128, and weight × reading of each
abbrev pub exact_sum : Settings → ℕ → (ℕ → ℕ) → ℤ
exact_sum s k reading = pos pedestal +ℤ sum_to k (λ n. weight_at s n *ℤ pos (reading n))

-- the first sample up to k whose reading is over the threshold
abbrev pub first_over : Settings → ℕ → (ℕ → ℕ) → Option ℕ
first_over s k reading = first_of k (λ n. over_it s n (reading n))

-- the mark of the first sample over the threshold, or a sum
abbrev pub marked_by : Option ℕ → ℤ → ℤ
marked_by (Some n) sum = mark n
marked_by None sum = sum

-- the entry of a pixel after k samples
abbrev pub entry_after : Settings → ℕ → (ℕ → ℕ) → ℤ
entry_after s k reading = marked_by (first_over s k reading) (exact_sum s k reading)
