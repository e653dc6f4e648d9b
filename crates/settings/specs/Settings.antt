-- The settings: the defaults, settings that are in range, settings with one part changed, and the weight of a sample.
use Rattle.std.specs.Prelude.{ℕ, zero, suc, Bool, ◌&&◌, List, [], ◌∷◌, ℤ, pos, neg_ℤ, get_or}
pub use Rattle.ranges.specs.Ranges.{max_weight, weight_in_range, max_threshold, threshold_in_range, truncation_in_range, max_samples, samples_in_range, weights_in_range}
use Rattle.settings.specs.declared.Settings.{Settings}

-- the settings at opening: weights −4 to 4, threshold 13,087, r = 2, N = 9
abbrev pub defaults : Settings
defaults = record {
  weights = neg_ℤ (pos 4) ∷ neg_ℤ (pos 3) ∷ neg_ℤ (pos 2) ∷ neg_ℤ (pos 1) ∷ pos 0 ∷ pos 1 ∷ pos 2 ∷ pos 3 ∷ pos 4 ∷ [];
  threshold = 13087;
  truncation = 2;
  samples = 9;
}

-- settings within Update's ranges
unfoldable pub in_range : Settings → Bool
in_range s =
    weights_in_range s.weights
    && threshold_in_range s.threshold
    && truncation_in_range s.truncation
    && samples_in_range s.samples

-- settings with other weights, or another threshold, r or N
abbrev pub with_weights : List ℤ → Settings → Settings
with_weights ws s = record { weights = ws; threshold = s.threshold; truncation = s.truncation; samples = s.samples }

abbrev pub with_threshold : ℕ → Settings → Settings
with_threshold t s = record { weights = s.weights; threshold = t; truncation = s.truncation; samples = s.samples }

abbrev pub with_truncation : ℕ → Settings → Settings
with_truncation r s = record { weights = s.weights; threshold = s.threshold; truncation = r; samples = s.samples }

abbrev pub with_samples : ℕ → Settings → Settings
with_samples n s = record { weights = s.weights; threshold = s.threshold; truncation = s.truncation; samples = n }

-- weight n, for samples n from 1
abbrev pub weight_at : Settings → ℕ → ℤ
weight_at s zero = pos 0
weight_at s (suc i) = get_or s.weights i (pos 0)
