-- A known ramp of two pixels. `proofs/Known.antt` shows it.
use Rattle.std.specs.Prelude.{ℕ, List, [], ◌∷◌, ◌≡◌, ℤ, pos, neg_ℤ}
use Rattle.std.specs.Float.{Float, binary64}
use Rattle.std.specs.Float.Ieee.{of_bits}
use Rattle.settings.specs.Settings.{defaults}
use Rattle.engines.specs.Engine.{in_floats}
use Rattle.sums.specs.Feed.{sums_in, sums_after}
use Rattle.sums.specs.Exact.{reading_of}

-- two samples, each of pixel 0 and then of pixel 1
abbrev two_samples : List ℕ
two_samples = 1000 ∷ 2000 ∷ 3000 ∷ 4000 ∷ []

pub record AllKnown : Type 0 where
  pub known_readings : (reading_of 2 two_samples 0 1 ≡ 1000)
      × (reading_of 2 two_samples 1 1 ≡ 2000)
      × (reading_of 2 two_samples 0 2 ≡ 3000)
      × (reading_of 2 two_samples 1 2 ≡ 4000)
  -- 128 − 4 × 1,000 − 3 × 3,000 and 128 − 4 × 2,000 − 3 × 4,000, whatever the entries held before
  pub known_sums : (e₀ e₁ : ℤ) → sums_after defaults 0 two_samples (e₀ ∷ e₁ ∷ []) ≡ neg_ℤ (pos 12872) ∷ neg_ℤ (pos 19872) ∷ []
  -- in floats, by their 64-bit patterns
  pub known_float_sums : (e₀ e₁ : Float)
      → sums_in in_floats defaults 0 two_samples (e₀ ∷ e₁ ∷ []) ≡ of_bits binary64 0xc0c9_2400_0000_0000 ∷ of_bits binary64 0xc0d3_6800_0000_0000 ∷ []
