-- The ends of each range. `proofs/Laws.antt` shows it.
use Rattle.std.specs.Prelude.{true, false, ◌≡◌, pos, neg_ℤ}
use Rattle.ranges.specs.Ranges.{weight_in_range, threshold_in_range, truncation_in_range, samples_in_range}

pub record RangesLaws : Type 0 where
  -- weights are −15 to 15
  pub known_weights : (weight_in_range (neg_ℤ (pos 15)) ≡ true) × (weight_in_range (pos 15) ≡ true) × (weight_in_range (neg_ℤ (pos 16)) ≡ false) × (weight_in_range (pos 16) ≡ false)
  -- thresholds are 0 to 16,383
  pub known_thresholds : (threshold_in_range 0 ≡ true) × (threshold_in_range 16383 ≡ true) × (threshold_in_range 16384 ≡ false)
  -- r is 1 to 3
  pub known_truncations : (truncation_in_range 0 ≡ false) × (truncation_in_range 1 ≡ true) × (truncation_in_range 3 ≡ true) × (truncation_in_range 4 ≡ false)
  -- N is 1 to 9
  pub known_samples : (samples_in_range 0 ≡ false) × (samples_in_range 1 ≡ true) × (samples_in_range 9 ≡ true) × (samples_in_range 10 ≡ false)
