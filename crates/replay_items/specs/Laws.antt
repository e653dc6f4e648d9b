-- The two directions of a pattern.
use Rattle.std.specs.Prelude.{◌≡◌, ℕ, ◌<◌, false, is_nan, to_bits}
use Rattle.std.specs.Float.{nan, binary64}
use Rattle.replay_items.specs.Patterns.{pattern_of, float_of_halves, half}

pub record PatternLaws : Type 0 where
  -- a float has the pattern that it was made of
  pub kept : (high low : ℕ) → high < 4294967296 → low < 4294967296 → is_nan (float_of_halves high low) ≡ false → to_bits binary64 (float_of_halves high low) ≡ pattern_of high low
  -- unless it is no number: that has one pattern
  pub no_number : to_bits binary64 nan ≡ pattern_of 2146959360 0
  -- the halves of a pattern
  pub high : (high low : ℕ) → low < 4294967296 → half 0 (pattern_of high low) ≡ high
  pub low : (high low : ℕ) → low < 4294967296 → half 1 (pattern_of high low) ≡ low
