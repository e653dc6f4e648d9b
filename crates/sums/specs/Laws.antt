-- What must be true of a ramp, beside the contracts. `proofs/Laws.antt` shows it.
use Rattle.std.specs.Prelude.{ℕ, suc, ◌+◌, ◌*◌, ◌≤◌, ◌<◌, true, List, ◌++◌, ◌↔◌, ◌≡◌, pos, length, get_or, ◌≤ℤ◌}
use Rattle.settings.specs.declared.Settings.{Settings}
use Rattle.settings.specs.Settings.{in_range}
use Rattle.settings.specs.Covered.{ceiling, is_covered}
use Rattle.engines.specs.Engine.{Kind, Entry, engine_of}
use Rattle.sums.specs.Feed.{sums_in}
use Rattle.sums.specs.Exact.{reading_of, exact_sum, entry_after}

pub record RampLaws : Type 0 where
  -- readings in two Feeds leave what they leave in one
  pub in_two : (kind : Kind) (s : Settings) (f : ℕ) (xs ys : List ℕ) (sums : List (Entry kind))
      → let engine = engine_of kind in sums_in engine s f (xs ++ ys) sums ≡ sums_in engine s (f + length xs) ys (sums_in engine s f xs sums)
  -- a pixel that has had k samples of a ramp, and no more, holds the entry of the mark of its first sample over the threshold, or else of its exact sum; whatever
  -- stood there before
  pub entry_is : (kind : Kind) (s : Settings) → in_range s ≡ true → (xs : List ℕ) (sums : List (Entry kind))
      → let engine = engine_of kind in let m = length sums in (p k : ℕ) → p < m → k ≤ 8 → k * m + p < length xs → length xs ≤ k * m + p + m
      → get_or (sums_in engine s 0 xs sums) p engine.absent ≡ engine.entry_of (entry_after s (suc k) (reading_of m xs p))
  -- settings are covered exactly where no readings at or below the threshold, one per sample, have an exact sum of 32,752 × 2^r or more
  pub covered_is : (s : Settings)
      → (is_covered s ≡ true)
      ↔ ((reading : ℕ → ℕ) → ((n : ℕ) → 1 ≤ n → n ≤ s.samples → reading n ≤ s.threshold)
      → pos (ceiling s.truncation) ≤ℤ exact_sum s s.samples reading → ⊥)
